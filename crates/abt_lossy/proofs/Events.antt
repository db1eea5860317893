-- What an event makes of all parts.
use Rattle.std.proofs.Common.{◌≡◌, ℕ, zero, suc, ◌+◌, ◌/◌, ◌%◌, ◌<◌, ◌≤◌, Bool, true, false, cond, ◌&&◌, inl, inr, List, [], ◌∷◌, ◌++◌, append-nil, filter, length, length-drop, drop, slice_get, Option, Some, None, Result, Ok, Err, OnOk, option_to_list, ◌==◌, refl, sym, ap, ◌∙◌, subst, arith}
use Rattle.std.specs.Prelude.{nat_lt}
use Rattle.std.proofs.lemmas.List.{length-map}
use Rattle.std.proofs.lemmas.Bool.Decides.{nat_tests, eqb_tells}
use Rattle.dcsp_defs.specs.Words.{In, below}
use Rattle.dcsp_defs.specs.Csp.{Csp, count}
use Rattle.dcsp_defs.proofs.Lists.{In-below, get-In}
use Rattle.law_agent.proofs.Runs.{In-pairs}
use Rattle.abt_defs.specs.Agents.{Message}
use Rattle.abt_defs.specs.Network.{Network as Net, pairs, run, start}
use Rattle.dcsp_rule.specs.Problems.{csp_of}
use Rattle.abt_parts.specs.Messages.{message_of}
use Rattle.abt_links.specs.Transit.{link_of}
use Rattle.abt_links.specs.PairTables.{has_pair, members}
use Rattle.abt_network.specs.Standing.{NetworkState, StandsAt}
use Rattle.law_runs.specs.Packets.{coming, staying}
use Rattle.law_runs.specs.Worlds.{World, begin, reliable, raised, unacknowledged, send_first, send_on, send, come, event, after}
use Rattle.law_runs.specs.Deliveries.{pair_of_packet, pair_of_event, number_of, delivered, numbers}
use Rattle.law_runs.proofs.WorldFacts.{facts_after, facts_begin, is_unacknowledged}
use Rattle.law_runs.proofs.PacketLists.{raised_row, raised_cell}
use Rattle.law_runs.proofs.Events.{effect}
use Rattle.law_runs.proofs.WorldRuns.{is_run}
use Rattle.law_runs.proofs.WholeWorlds.{one_more_event}
use Rattle.abt_lossy.specs.declared.parts.Parts.{Parts}
use Rattle.abt_lossy.specs.declared.parts.Happened.{Happened}
use Rattle.abt_lossy.specs.declared.carrier.Arrival.TheVariants.{Done, Counted}
use Rattle.abt_lossy.specs.Carries.{acknowledged_of, handed_up_of, Carries, Changes, Comes, Sends}
use Rattle.abt_lossy.specs.AtWorld.{may_send, IsAt, IsEvent, Does}

-- the test of a pair by what is at hand is the test of the definitions
sent_count : (n : ℕ) (xs : List Message) → n ≤ length xs → n + length (drop n xs) ≡ length xs
sent_count n xs l = let e = length-drop n xs in omega arith

waits : (s : NetworkState) (net : Net) → StandsAt s net → (k i : ℕ) → length (link_of s.links k i) ≡ length (net.links k i)
waits s net h k i = sym (length-map (link_of s.links k i) message_of) ∙ ap length (h.parts.lists k i)

pub may_send_by : (p : Csp) (words : List ℕ) (l : Parts) → StandsAt l.network (run p (numbers p words (begin p)) (start p)) → Carries (after p words (begin p)) l.carrier → (k i : ℕ)
    → may_send l k i ≡ nat_lt ((after p words (begin p)).acknowledged k i) (length ((after p words (begin p)).network.links k i))
may_send_by p words l s c k i =
    let w = after p words (begin p) in
    let h = facts_after p words (begin p) (facts_begin p) in
    let waiting = length (link_of l.network.links k i) in
    let a : acknowledged_of l.carrier.counts k i ≡ w.acknowledged k i = ap (λ (f : ℕ → ℕ → ℕ). f k i) c.acknowledged in
    let b : handed_up_of l.carrier.counts k i ≡ w.handed_up k i = ap (λ (f : ℕ → ℕ → ℕ). f k i) c.handed_up in
    let d : waiting ≡ length ((reliable w).links k i) = waits l.network _ s k i ∙ sym (ap (λ (n : Net). length (n.links k i)) (is_run p words)) in
    let e : w.handed_up k i + length (drop (w.handed_up k i) (w.network.links k i)) ≡ length (w.network.links k i) = sent_count (w.handed_up k i) (w.network.links k i) (h.handed_up k i) in
    ap (λ x. nat_lt x (handed_up_of l.carrier.counts k i + waiting)) a ∙ ap (nat_lt (w.acknowledged k i)) (ap (λ x. x + waiting) b ∙ ap (λ x. w.handed_up k i + x) d ∙ e)

filter-same : {X : Type 0} → (f g : X → Bool) (xs : List X) → ((x : X) → In x xs → f x ≡ g x) → filter f xs ≡ filter g xs
filter-same f g [] h = refl
filter-same f g (x ∷ xs) h =
    let e : f x ≡ g x = h x (inl refl) in
    let r : filter f xs ≡ filter g xs = filter-same f g xs (λ y u. h y (inr u)) in
    ap (λ b. cond b (x ∷ filter f xs) (filter f xs)) e ∙ ap (λ l. cond (g x) (x ∷ l) l) r

-- the set has the pairs that may send
pub members_are : (p : Csp) (words : List ℕ) (l : Parts) → IsAt p words l → members l.senders ≡ unacknowledged p (after p words (begin p))
members_are p words l s =
    let w = after p words (begin p) in
    ap (λ n. filter (λ (x : ℕ × ℕ). has_pair l.senders x.0 x.1) (pairs n)) (s.senders ∙ s.agents)
    ∙ filter-same (λ (x : ℕ × ℕ). has_pair l.senders x.0 x.1) (λ (x : ℕ × ℕ). nat_lt (w.acknowledged x.0 x.1) (length (w.network.links x.0 x.1))) (pairs (count p)) (λ x u.
    let r = In-pairs (count p) x (below (count p)) u in
    s.marks x.0 x.1 (In-below (count p) x.0 r.1) (In-below (count p) x.1 r.0) ∙ may_send_by p words l s.network s.carrier x.0 x.1)

-- an event that hands up nothing
pub at_none : (p : Csp) (words : List ℕ) (word : ℕ) (old new : Parts) → IsAt p words old → (after p words (begin p)).network.refuted ≡ false → delivered p word (after p words (begin p)) ≡ None
    → new.network ≡ old.network → Carries (event p word (after p words (begin p))) new.carrier → new.agents ≡ old.agents → new.senders.agents ≡ old.senders.agents
    → ((k i : ℕ) → k < count p → i < count p → has_pair new.senders k i ≡ may_send new k i) → IsAt p (words ++ word ∷ []) new
at_none p words word old new s f d n c g a m =
    let one = one_more_event p words word f in
    let same : numbers p (words ++ word ∷ []) (begin p) ≡ numbers p words (begin p) = one.numbers ∙ ap (λ o. numbers p words (begin p) ++ option_to_list o) d ∙ append-nil (numbers p words (begin p)) in
    record {
      problem = ap (λ (x : NetworkState). csp_of x.problem) n ∙ s.problem;
      network = subst (λ (ns : List ℕ). StandsAt new.network (run p ns (start p))) (sym same) (subst (λ (v : NetworkState). StandsAt v (run p (numbers p words (begin p)) (start p))) (sym n) s.network);
      carrier = subst (λ (w : World). Carries w new.carrier) (sym one.next) c;
      agents = g ∙ s.agents;
      senders = a ∙ s.senders ∙ sym g;
      marks = m;
      begun = ap (λ (x : NetworkState). x.begun) n ∙ s.begun;
      sound = ap (λ (x : NetworkState). x.spent) n ∙ s.sound;
    }

pub none_some : {X : Type 0} → (x : X) → None ≡ Some x → ⊥
none_some x e = cc

-- what hands up nothing makes no step
none_steps : (p : Csp) (word : ℕ) (w : World) → pair_of_event word w ≡ None → (event p word w).network.steps ≡ w.network.steps ++ []
none_steps p word w e = elim (effect p word w) [
  | inl n ↦ ap (λ (x : Net). x.steps) n.network ∙ sym (append-nil w.network.steps)
  | inr u ↦ absurd (none_some (u.k, u.i) (sym e ∙ u.pair_is))
]

none_up : (p : Csp) (words : List ℕ) (word : ℕ) (old new : Parts) → IsAt p words old → (after p words (begin p)).network.refuted ≡ false → pair_of_event word (after p words (begin p)) ≡ None
    → new.network ≡ old.network → Carries (event p word (after p words (begin p))) new.carrier → new.agents ≡ old.agents → new.senders.agents ≡ old.senders.agents
    → ((k i : ℕ) → k < count p → i < count p → has_pair new.senders k i ≡ may_send new k i) → IsEvent p words word (record { delivered = None; step = None }) (after p words (begin p)) new
none_up p words word old new s f d n c g a m =
    let none : delivered p word (after p words (begin p)) ≡ None = ap (number_of p (reliable (after p words (begin p)))) d in
    record { stands = at_none p words word old new s f none n c g a m; delivered = none; steps = none_steps p word (after p words (begin p)) d; right = tt; in_range = tt }

-- ---- sending

is_zero : (n : ℕ) → n ≡ 0 → (n == 0) ≡ true
is_zero n e = grind (arith, nat_tests)

no_pair : (word : ℕ) (w : World) → word % 4 ≡ 0 → pair_of_event word w ≡ None
no_pair word w e = ap (λ b. cond b None (pair_of_packet w (coming word w.pool))) (is_zero (word % 4) e)

sends_is : (p : Csp) (word : ℕ) (w : World) → word % 4 ≡ 0 → event p word w ≡ send p (word / 4) w
sends_is p word w e = ap (λ b. cond b (send p (word / 4) w) (come p (coming word w.pool) (record w { pool = staying word w.pool }))) (is_zero (word % 4) e)

empty_by : {X : Type 0} → (xs : List X) → length xs ≡ 0 → xs ≡ []
empty_by [] h = refl
empty_by (x ∷ xs) h = absurd (omega arith)

-- no pair may send
pub sends_nothing : (word c : ℕ) (l : Parts) → word % 4 ≡ 0 → c ≡ length (members l.senders) → c ≡ 0 → Does word (record { delivered = None; step = None }) l l
sends_nothing word c l e g z p words s f =
    let w = after p words (begin p) in
    let none : unacknowledged p w ≡ [] = empty_by (unacknowledged p w) (ap length (sym (members_are p words l s)) ∙ sym g ∙ z) in
    let same : event p word w ≡ w = sends_is p word w e ∙ ap (λ (xs : List (ℕ × ℕ)). send_on (slice_get xs ((word / 4) % length xs)) w) none in
    none_up p words word l l s f (no_pair word w e) refl (subst (λ (v : World). Carries v l.carrier) (sym same) s.carrier) refl refl s.marks

found : (xs : List Message) (n : ℕ) → n < length xs → (m : Message) × (slice_get xs n ≡ Some m)
found [] n l = absurd (omega arith)
found (x ∷ xs) zero l = (x, refl)
found (x ∷ xs) (suc n) l = found xs n (omega arith)

-- the marks stay right where counts and network are the same
marks_stay : (p : Csp) (words : List ℕ) (l new : Parts) → IsAt p words l → new.carrier.counts ≡ l.carrier.counts → new.network ≡ l.network → new.senders ≡ l.senders
    → (a b : ℕ) → a < count p → b < count p → has_pair new.senders a b ≡ may_send new a b
marks_stay p words l new s same n u a b la lb =
    ap (λ x. has_pair x a b) u ∙ s.marks a b la lb
    ∙ ap (λ x. nat_lt (acknowledged_of x a b) (handed_up_of x a b + length (link_of l.network.links a b))) (sym same)
    ∙ ap (λ (x : NetworkState). nat_lt (acknowledged_of new.carrier.counts a b) (handed_up_of new.carrier.counts a b + length (link_of x.links a b))) (sym n)

-- a pair sends
pub sends_one : (word c k i : ℕ) (l new : Parts) → word % 4 ≡ 0 → c ≡ length (members l.senders) → slice_get (members l.senders) ((word / 4) % c) ≡ Some (k, i)
    → Sends k i l.carrier new.carrier → new.carrier.counts ≡ l.carrier.counts → new.network ≡ l.network → new.agents ≡ l.agents → new.senders ≡ l.senders → Does word (record { delivered = None; step = None }) l new
sends_one word c k i l new e g h sends same n t u p words s f =
    let w = after p words (begin p) in
    let are = members_are p words l s in
    let at : slice_get (unacknowledged p w) ((word / 4) % length (unacknowledged p w)) ≡ Some (k, i) = sym (ap (λ (xs : List (ℕ × ℕ)). slice_get xs ((word / 4) % length xs)) are) ∙ ap (λ x. slice_get (members l.senders) ((word / 4) % x)) (sym g) ∙ h in
    let q = is_unacknowledged p w (k, i) (get-In (unacknowledged p w) _ (k, i) at) in
    let m = found (w.network.links k i) (w.acknowledged k i) q.2 in
    let is : event p word w ≡ send_first k i (Some m.0) w = sends_is p word w e ∙ ap (λ (o : Option (ℕ × ℕ)). send_on o w) at ∙ ap (λ (o : Option Message). send_first k i o w) m.1 in
    none_up p words word l new s f (no_pair word w e) n (subst (λ (v : World). Carries v new.carrier) (sym is) (sends w m.0 s.carrier)) t (ap (λ x. x.agents) u) (marks_stay p words l new s same n u)

pub on_both : {T E : Type 0} → (r : Result T E) (P Q R : Type 0) → (P → Q → R) → OnOk r P → OnOk r Q → OnOk r R
on_both (Ok x) P Q R g a b = g a b
on_both (Err x) P Q R g a b = tt

-- ---- what comes

-- nothing is handed up, and no count has changed
pub comes_done : (word : ℕ) (l new : Parts) → Comes word Done l.carrier new.carrier → new.carrier.counts ≡ l.carrier.counts → new.network ≡ l.network → new.agents ≡ l.agents → new.senders ≡ l.senders → Does word (record { delivered = None; step = None }) l new
comes_done word l new comes same n t u p words s f =
    let r = comes p (after p words (begin p)) f s.carrier in
    none_up p words word l new s f r.0 n r.1 t (ap (λ x. x.agents) u) (marks_stay p words l new s same n u)

-- one message more is acknowledged
pub comes_counted : (word k i n : ℕ) (l new : Parts) → Comes word (Counted k i n) l.carrier new.carrier → Changes (Counted k i n) l.carrier new.carrier → new.network ≡ l.network → new.agents ≡ l.agents → new.senders.agents ≡ l.senders.agents
    → ((a b : ℕ) → has_pair new.senders a b ≡ cond (a == k && b == i) (may_send new a b) (has_pair l.senders a b)) → Does word (record { delivered = None; step = None }) l new
comes_counted word k i n l new comes changes same g u m p words s f =
    let w = after p words (begin p) in
    let r = comes p w f s.carrier in
    let still : (a b : ℕ) → acknowledged_of new.carrier.counts a b ≡ acknowledged_of l.carrier.counts a b → may_send l a b ≡ may_send new a b = λ a b e.
    ap (λ x. nat_lt x (handed_up_of l.carrier.counts a b + length (link_of l.network.links a b))) (sym e)
    ∙ ap (λ (h : ℕ → ℕ → ℕ). nat_lt (acknowledged_of new.carrier.counts a b) (h a b + length (link_of l.network.links a b))) (sym changes.0)
    ∙ ap (λ (x : NetworkState). nat_lt (acknowledged_of new.carrier.counts a b) (handed_up_of new.carrier.counts a b + length (link_of x.links a b))) (sym same) in
    let now : (a b : ℕ) → acknowledged_of new.carrier.counts a b ≡ raised (acknowledged_of l.carrier.counts) k i a b = λ a b. ap (λ (h : ℕ → ℕ → ℕ). h a b) changes.1 in
    none_up p words word l new s f r.0 same r.2 g u (λ a b la lb. m a b ∙ elim (eqb_tells a k) [
      | inl t ↦ elim (eqb_tells b i) [
        | inl v ↦ rw (t.0, v.0) refl
        | inr v ↦ rw (t.0, v.0) (s.marks a b la lb ∙ still a b (now a b ∙ ap (λ x. raised (acknowledged_of l.carrier.counts) k i x b) t.1 ∙ raised_cell (acknowledged_of l.carrier.counts) k i b v.1 ∙ ap (λ x. acknowledged_of l.carrier.counts x b) (sym t.1)))
      ]
      | inr t ↦ rw t.0 (s.marks a b la lb ∙ still a b (now a b ∙ raised_row (acknowledged_of l.carrier.counts) k i a t.1 b))
    ])

-- what happened is told
pub happens_as : {word : ℕ} {a b : Happened} {l new : Parts} → a ≡ b → Does word a l new → Does word b l new
happens_as {word = word} {l = l} {new = new} e h = subst (λ (x : Happened). Does word x l new) e h
