-- An event that hands up a message, and what its calls ask for.
use Rattle.std.proofs.Common.{◌≡◌, ◌≢◌, ℕ, ◌+◌, ◌%◌, ◌^◌, ◌<◌, ◌≤◌, Bool, true, false, cond, ◌&&◌, ◌⊎◌, inl, inr, List, [], ◌∷◌, ◌++◌, length, map, slice_get, Option, Some, None, option_to_list, unwrap_or, ◌==◌, refl, sym, ap, ◌∙◌, subst, arith}
use Rattle.std.specs.Prelude.{nat_lt, IfSome}
use Rattle.std.proofs.lemmas.Bool.Decides.{nat_tests, eqb_tells}
use Rattle.dcsp_defs.specs.Csp.{Csp, count}
use Rattle.dcsp_defs.specs.declared.Step.{Step}
use Rattle.abt_defs.specs.Agents.{Message}
use Rattle.abt_defs.specs.Network.{Network as Net, ready, run, start, deliver, is_empty}
use Rattle.dcsp_rule.specs.Problems.{csp_of}
use Rattle.abt_parts.specs.Messages.{message_of}
use Rattle.abt_links.specs.Transit.{link_of, ready_pairs}
use Rattle.abt_links.specs.PairTables.{has_pair}
use Rattle.ngd_log.specs.StepText.{IsInRange}
use Rattle.abt_network.specs.declared.Delivery.{Delivery}
use Rattle.abt_network.specs.declared.Standing.{Standing}
use Rattle.abt_network.specs.declared.Standing.TheVariants.{Open, Quiet, Refuted}
use Rattle.abt_network.specs.Standing.{NetworkState, StandsAt, standing_in, reached, CanDeliver, Delivers as CodeDelivers, LeadsOn, IsRightStep}
use Rattle.law_runs.specs.Packets.{Data, Acknowledgement, coming, staying}
use Rattle.law_runs.specs.Worlds.{World, begin, reliable, raised, add_packet, acknowledge, hand_up, arrive, come, event, after}
use Rattle.law_runs.specs.Deliveries.{pair_of_event, number_of, delivered, numbers}
use Rattle.law_runs.specs.WorldFacts.{IsRightAcknowledgement}
use Rattle.law_runs.proofs.PacketLists.{raised_tells, coming-In}
use Rattle.law_runs.proofs.WorldFacts.{facts_after, facts_begin}
use Rattle.law_runs.proofs.Events.{HandsUpNone, Delivers, moves, acknowledge_network}
use Rattle.law_runs.proofs.WorldRuns.{is_run}
use Rattle.law_runs.proofs.CalmEvents.{run_more}
use Rattle.law_runs.proofs.PacketPlaces.{numbers_are_places}
use Rattle.law_runs.proofs.WorldSizes.{world_is_small}
use Rattle.law_runs.proofs.WholeWorlds.{one_more_event}
use Rattle.abt_lossy.specs.declared.carrier.Carrier.{Carrier}
use Rattle.abt_lossy.specs.declared.carrier.Arrival.TheVariants.{Counted, Next}
use Rattle.abt_lossy.specs.declared.parts.Parts.{Parts}
use Rattle.abt_lossy.specs.Carries.{acknowledged_of, handed_up_of, Carries, Changes, Comes, CountsFit, HandsUp}
use Rattle.abt_lossy.specs.AtWorld.{is_refuted, may_send, IsAt, IsBlank, IsEvent, Does, IsReached}
use Rattle.abt_lossy.proofs.Comes.{event_is}
use Rattle.abt_lossy.proofs.Events.{may_send_by, none_some, comes_counted}
use Rattle.abt_lossy.proofs.ReadyPairs.{ready_are}

arrive_next : (p : Csp) (w : World) (k i n : ℕ) (m : Message) → n ≡ w.handed_up k i + 1 → arrive p (Data k i n m) w ≡ acknowledge k i n (hand_up p k i m w)
arrive_next p w k i n m e = elim (eqb_tells n (w.handed_up k i + 1)) [ inl t ↦ rw t.0 refl | inr t ↦ absurd (t.1 e) ]

acknowledge_acknowledged : (k i n : ℕ) (w : World) → (acknowledge k i n w).acknowledged ≡ w.acknowledged
acknowledge_acknowledged k i n w = elim w.network.refuted as (λ b. (cond b w (add_packet (Acknowledgement k i n) w)).acknowledged ≡ w.acknowledged) [ true ↦ refl | false ↦ refl ]

same_pair : (a b c d : ℕ) → ◌≡◌ {A = Option (ℕ × ℕ)} (Some (a, b)) (Some (c, d)) → (a ≡ c) × (b ≡ d)
same_pair a b c d e = let f : ◌≡◌ {A = ℕ × ℕ} (a, b) (c, d) = ap (λ (o : Option (ℕ × ℕ)). unwrap_or o (0, 0)) e in (ap (λ (x : ℕ × ℕ). x.0) f, ap (λ (x : ℕ × ℕ). x.1) f)

same_some : (a b : ℕ) → Some a ≡ Some b → a ≡ b
same_some a b e = ap (λ (o : Option ℕ). unwrap_or o 0) e

below_it : (b n : ℕ) → b < n → nat_lt b n ≡ true
below_it b n u = grind (arith, nat_tests)

-- what the calls of such an event have done
pub record Handed (word k i n c : ℕ) (step : Option Step) (l : Parts) (mid : Carrier) (new : Parts) : Type 0 where
  pub kind : word % 4 ≢ 0
  pub comes : Comes word (Next k i n) l.carrier mid
  pub place : (net : Net) → StandsAt l.network net → slice_get (ready (csp_of l.network.problem) net) c ≡ Some (k, i)
  pub there : (net : Net) → StandsAt l.network net → StandsAt new.network (deliver (csp_of l.network.problem) c net)
  pub steps : (net : Net) → StandsAt l.network net → (deliver (csp_of l.network.problem) c net).steps ≡ net.steps ++ option_to_list step
  pub right : (choices : List ℕ) → StandsAt l.network (reached l.network choices) → IsRightStep (csp_of l.network.problem) (reached l.network choices).steps step × IfSome step IsInRange
  pub hands : HandsUp k i n new.network.refuted mid new.carrier
  pub problem : new.network.problem ≡ l.network.problem
  pub begun : new.network.begun ≡ true
  pub sound : new.network.spent ≡ false
  pub agents : new.agents ≡ l.agents
  pub senders : new.senders.agents ≡ l.senders.agents
  pub marks : (a b : ℕ) → has_pair new.senders a b ≡ cond (a == i && nat_lt b l.agents) (may_send new a b) (has_pair l.senders a b)

module _ (p : Csp) (words : List ℕ) (word k i n c : ℕ) (step : Option Step) (l new : Parts) (mid : Carrier) (h : Handed word k i n c step l mid new) (s : IsAt p words l) (f : (after p words (begin p)).network.refuted ≡ false) where
  by_move : HandsUpNone (after p words (begin p)) (pair_of_event word (after p words (begin p))) (event p word (after p words (begin p)))
      ⊎ Delivers p (after p words (begin p)) (pair_of_event word (after p words (begin p))) (coming word (after p words (begin p)).pool) (event p word (after p words (begin p)))
      → IsEvent p words word (record { delivered = Some c; step = step }) (after p words (begin p)) new
  by_move (inl o) = absurd (none_some (k, i) (sym o.pair_none ∙ (h.comes p (after p words (begin p)) f s.carrier).0))
  by_move (inr d) =
      let w = after p words (begin p) in
      let ns = numbers p words (begin p) in
      let net = run p ns (start p) in
      let e : reliable w ≡ net = is_run p words in
      let r = h.comes p w f s.carrier in
      let both = same_pair d.up.k d.up.i k i (sym d.up.pair_is ∙ r.0) in
      let at : slice_get (ready p net) c ≡ Some (k, i) = subst (λ (q : Csp). slice_get (ready q net) c ≡ Some (k, i)) s.problem (h.place net s.network) in
      let here : number_of p (reliable w) (Some (k, i)) ≡ Some c = ap (λ (x : Net). number_of p x (Some (k, i))) e ∙ numbers_are_places p net c k i at in
      let dn : delivered p word w ≡ Some c = ap (number_of p (reliable w)) r.0 ∙ here in
      let chosen : d.choice ≡ c = same_some d.choice c (sym d.number ∙ dn) in
      let there : StandsAt new.network (deliver p c net) = subst (λ (q : Csp). StandsAt new.network (deliver q c net)) s.problem (h.there net s.network) in
      let made : (deliver p c net).steps ≡ net.steps ++ option_to_list step = subst (λ (q : Csp). (deliver q c net).steps ≡ net.steps ++ option_to_list step) s.problem (h.steps net s.network) in
      let right : IsRightStep p net.steps step × IfSome step IsInRange =
      subst (λ (q : Csp). StandsAt l.network (run q ns (start q)) → IsRightStep q (run q ns (start q)).steps step × IfSome step IsInRange) s.problem (h.right ns) s.network in
      let next : reliable (event p word w) ≡ deliver p c net = d.next ∙ ap (λ x. deliver p x (reliable w)) chosen ∙ ap (deliver p c) e in
      let one = one_more_event p words word f in
      let more : numbers p (words ++ word ∷ []) (begin p) ≡ ns ++ c ∷ [] = one.numbers ∙ ap (λ o. ns ++ option_to_list o) dn in
      let alive : net.refuted ≡ false = ap (λ (x : Net). x.refuted) (sym e) ∙ f in
      let goes : run p (numbers p (words ++ word ∷ []) (begin p)) (start p) ≡ deliver p c net = ap (λ (x : List ℕ). run p x (start p)) more ∙ run_more p ns c (start p) ∙ ap (λ b. cond b net (deliver p c net)) alive in
      let rest : World = record w { pool = staying word w.pool } in
      let number : d.up.n ≡ n = d.up.next ∙ ap (λ x. w.handed_up x d.up.i + 1) both.0 ∙ ap (λ x. w.handed_up k x + 1) both.1 ∙ sym r.1 in
      let packet : coming word w.pool ≡ Some (Data k i n d.up.m) = d.up.packet_is ∙ ap (λ x. Some (Data x d.up.i d.up.n d.up.m)) both.0 ∙ ap (λ x. Some (Data k x d.up.n d.up.m)) both.1 ∙ ap (λ x. Some (Data k i x d.up.m)) number in
      let is : event p word w ≡ acknowledge k i n (hand_up p k i d.up.m rest) = event_is p w word h.kind ∙ ap (λ o. come p o rest) packet ∙ arrive_next p rest k i n d.up.m r.1 in
      let flag : (hand_up p k i d.up.m rest).network.refuted ≡ new.network.refuted =
      sym (ap (λ (x : Net). x.refuted) (acknowledge_network k i n (hand_up p k i d.up.m rest))) ∙ sym (ap (λ (v : World). v.network.refuted) is) ∙ ap (λ (x : Net). x.refuted) next ∙ sym there.refuted in
      let carried : Carries (acknowledge k i n (hand_up p k i d.up.m rest)) new.carrier = h.hands p rest d.up.m flag r.2 in
      let v : after p (words ++ word ∷ []) (begin p) ≡ acknowledge k i n (hand_up p k i d.up.m rest) = one.next ∙ is in
      let network : StandsAt new.network (run p (numbers p (words ++ word ∷ []) (begin p)) (start p)) = subst (λ (x : Net). StandsAt new.network x) (sym goes) there in
      let carrier : Carries (after p (words ++ word ∷ []) (begin p)) new.carrier = subst (λ (x : World). Carries x new.carrier) (sym v) carried in
      let acknowledged : (a b : ℕ) → (after p (words ++ word ∷ []) (begin p)).acknowledged a b ≡ w.acknowledged a b = λ a b.
      ap (λ (x : World). x.acknowledged a b) v ∙ ap (λ (g : ℕ → ℕ → ℕ). g a b) (acknowledge_acknowledged k i n (hand_up p k i d.up.m rest)) in
      let links : (a b : ℕ) → (a == i) ≡ false → (after p (words ++ word ∷ []) (begin p)).network.links a b ≡ w.network.links a b = λ a b t.
      ap (λ (x : World). x.network.links a b) v ∙ ap (λ (x : Net). x.links a b) (acknowledge_network k i n (hand_up p k i d.up.m rest)) ∙ rw t refl in
      record {
        stands = record {
          problem = ap csp_of h.problem ∙ s.problem;
          network = network;
          carrier = carrier;
          agents = h.agents ∙ s.agents;
          senders = h.senders ∙ s.senders ∙ sym h.agents;
          marks = λ a b la lb. h.marks a b ∙ elim (eqb_tells a i) [
            | inl t ↦
                let inside : nat_lt b l.agents ≡ true = (let g : l.agents ≡ count p = s.agents in below_it b l.agents (omega arith)) in
                rw (t.0, inside) refl
            | inr t ↦
                rw t.0 (s.marks a b la lb ∙ may_send_by p words l s.network s.carrier a b
                ∙ sym (may_send_by p (words ++ word ∷ []) new network carrier a b ∙ ap (λ x. nat_lt x (length ((after p (words ++ word ∷ []) (begin p)).network.links a b))) (acknowledged a b) ∙ ap (λ (x : List Message). nat_lt (w.acknowledged a b) (length x)) (links a b t.0)))
          ];
          begun = h.begun;
          sound = h.sound;
        };
        delivered = dn;
        steps = ap (λ (x : Net). x.steps) next ∙ made ∙ ap (λ (x : Net). x.steps ++ option_to_list step) (sym e);
        right = subst (λ (x : Net). IsRightStep p x.steps step) (sym e) right.0;
        in_range = right.1;
      }

  hands_one : IsEvent p words word (record { delivered = Some c; step = step }) (after p words (begin p)) new
  hands_one = by_move (moves p word (after p words (begin p)) (facts_after p words (begin p) (facts_begin p)))

pub comes_next : (word k i n c : ℕ) (step : Option Step) (l new : Parts) (mid : Carrier) → Handed word k i n c step l mid new → Does word (record { delivered = Some c; step = step }) l new
comes_next word k i n c step l new mid h p words s f = hands_one p words word k i n c step l new mid h s f

-- ---- what the calls ask for

-- the counts are so low that one more does no harm
pub record IsLow (c : Carrier) : Type 0 where
  pub handed_up : (k i : ℕ) → handed_up_of c.counts k i < 2 ^ 61
  pub acknowledged : (k i : ℕ) → acknowledged_of c.counts k i < 2 ^ 61

raised_low : (f : ℕ → ℕ → ℕ) (k i a b : ℕ) → ((x y : ℕ) → f x y < 2 ^ 61) → raised f k i a b < 2 ^ 62
raised_low f k i a b h = elim (raised_tells f k i a b) [
  | inl t ↦ let e = t.2 in let l = h k i in omega arith
  | inr t ↦ let l = h a b in omega arith
]

low_enough : (n m : ℕ) → n ≡ m → m < 2 ^ 61 → n < 2 ^ 62
low_enough n m e l = omega arith

pub low_of : (l : Parts) → IsReached l → IsLow l.carrier
low_of l r =
    let w = world_is_small r.p r.words in
    let h = facts_after r.p r.words (begin r.p) (facts_begin r.p) in
    record {
      handed_up = λ k i. low (handed_up_of l.carrier.counts k i) _ _ (length r.words) (ap (λ (g : ℕ → ℕ → ℕ). g k i) r.stands.carrier.handed_up) (w.handed_up k i) w.deliveries r.few;
      acknowledged = λ k i. let b = h.acknowledged k i in let a = w.handed_up k i in low (acknowledged_of l.carrier.counts k i) _ _ (length r.words) (ap (λ (g : ℕ → ℕ → ℕ). g k i) r.stands.carrier.acknowledged) (both _ _ _ b a) w.deliveries r.few;
    }
  where
    both : (a b c : ℕ) → a ≤ b → b ≤ c → a ≤ c
    both a b c x y = omega arith

    low : (a b c d : ℕ) → a ≡ b → b ≤ c → c ≤ d → d < 2 ^ 48 → a < 2 ^ 61
    low a b c d e x y z = omega arith

pub fit_of : (l : Parts) → IsReached l → CountsFit l.carrier
fit_of l r = let s = low_of l r in record { handed_up = λ k i. low_enough _ _ refl (s.handed_up k i); acknowledged = λ k i. low_enough _ _ refl (s.acknowledged k i) }

pub fit_same : (old new : Carrier) → CountsFit old → new.counts ≡ old.counts → CountsFit new
fit_same old new m e = record {
  handed_up = λ k i. subst (λ x. handed_up_of x k i < 2 ^ 62) (sym e) (m.handed_up k i);
  acknowledged = λ k i. subst (λ x. acknowledged_of x k i < 2 ^ 62) (sym e) (m.acknowledged k i);
}

pub fit_counted : (k i n : ℕ) (l : Parts) (new : Carrier) → IsReached l → Changes (Counted k i n) l.carrier new → CountsFit new
fit_counted k i n l new r c = let s = low_of l r in record {
  handed_up = λ a b. low_enough (handed_up_of new.counts a b) (handed_up_of l.carrier.counts a b) (ap (λ (g : ℕ → ℕ → ℕ). g a b) c.0) (s.handed_up a b);
  acknowledged = λ a b. subst (λ x. x < 2 ^ 62) (sym (ap (λ (g : ℕ → ℕ → ℕ). g a b) c.1)) (raised_low (acknowledged_of l.carrier.counts) k i a b s.acknowledged);
}

pub fit_next : (k i : ℕ) (l : Parts) (mid new : Carrier) → IsReached l → mid.counts ≡ l.carrier.counts → handed_up_of new.counts ≡ raised (handed_up_of mid.counts) k i → acknowledged_of new.counts ≡ acknowledged_of mid.counts → CountsFit new
fit_next k i l mid new r c h g =
    let s = low_of l r in
    let e : handed_up_of new.counts ≡ raised (handed_up_of l.carrier.counts) k i = h ∙ ap (λ x. raised (handed_up_of x) k i) c in
    let f : acknowledged_of new.counts ≡ acknowledged_of l.carrier.counts = g ∙ ap acknowledged_of c in
    record {
      handed_up = λ a b. subst (λ x. x < 2 ^ 62) (sym (ap (λ (z : ℕ → ℕ → ℕ). z a b) e)) (raised_low (handed_up_of l.carrier.counts) k i a b s.handed_up);
      acknowledged = λ a b. low_enough (acknowledged_of new.counts a b) (acknowledged_of l.carrier.counts a b) (ap (λ (z : ℕ → ℕ → ℕ). z a b) f) (s.acknowledged a b);
    }

-- the acknowledgement that came is of two agents
pub counted_inside : (word k i n : ℕ) (l : Parts) (mid : Carrier) → IsReached l → Comes word (Counted k i n) l.carrier mid → (k < l.agents) × (i < l.agents)
counted_inside word k i n l mid r c =
    let w = after r.p r.words (begin r.p) in
    let came = (c r.p w r.alive r.stands.carrier).1 in
    let right : IsRightAcknowledgement r.p w k i n = (facts_after r.p r.words (begin r.p) (facts_begin r.p)).packets (Acknowledgement k i n) (coming-In word (Acknowledgement k i n) w.pool came) in
    let e : l.agents ≡ count r.p = r.stands.agents in
    let a = right.sender in let b = right.receiver in
    (omega arith, omega arith)

module _ (word k i n : ℕ) (l : Parts) (mid : Carrier) (r : IsReached l) (c : Comes word (Next k i n) l.carrier mid) where
  delivers_here : Delivers r.p (after r.p r.words (begin r.p)) (pair_of_event word (after r.p r.words (begin r.p))) (coming word (after r.p r.words (begin r.p)).pool) (event r.p word (after r.p r.words (begin r.p)))
  delivers_here = elim (moves r.p word (after r.p r.words (begin r.p)) (facts_after r.p r.words (begin r.p) (facts_begin r.p))) [
    | inl o ↦ absurd (none_some (k, i) (sym o.pair_none ∙ (c r.p (after r.p r.words (begin r.p)) r.alive r.stands.carrier).0))
    | inr d ↦ d
  ]

  pub next_inside : (k < l.agents) × (i < l.agents)
  next_inside =
      let d = delivers_here in
      let both = same_pair d.up.k d.up.i k i (sym d.up.pair_is ∙ (c r.p (after r.p r.words (begin r.p)) r.alive r.stands.carrier).0) in
      let e : l.agents ≡ count r.p = r.stands.agents in
      let a = d.data_is.sender in let b = d.data_is.receiver in let x = both.0 in let y = both.1 in
      (omega arith, omega arith)

  pub waits_here : link_of l.network.links k i ≢ []
  waits_here e =
      let w = after r.p r.words (begin r.p) in
      let d = delivers_here in
      let both = same_pair d.up.k d.up.i k i (sym d.up.pair_is ∙ (c r.p w r.alive r.stands.carrier).0) in
      let some : is_empty ((run r.p (numbers r.p r.words (begin r.p)) (start r.p)).links k i) ≡ false =
      ap (λ (x : Net). is_empty (x.links k i)) (sym (is_run r.p r.words)) ∙ ap (λ x. is_empty ((reliable w).links x i)) (sym both.0) ∙ ap (λ x. is_empty ((reliable w).links d.up.k x)) (sym both.1) ∙ d.waiting in
      let none : is_empty ((run r.p (numbers r.p r.words (begin r.p)) (start r.p)).links k i) ≡ true = ap is_empty (sym (r.stands.network.parts.lists k i)) ∙ ap (λ x. is_empty (map message_of x)) e in
      let z : true ≡ false = sym none ∙ some in
      cc

-- a delivery can be made, since a pair is ready
pub can_deliver : (l : Parts) → IsReached l → (c : ℕ) (x : ℕ × ℕ) → slice_get (ready_pairs l.network.links) c ≡ Some x → CanDeliver l.network
can_deliver l r c x h =
    let w = after r.p r.words (begin r.p) in
    let net = run r.p (numbers r.p r.words (begin r.p)) (start r.p) in
    let e : reliable w ≡ net = is_run r.p r.words in
    let alive : l.network.refuted ≡ false = r.stands.network.refuted ∙ ap (λ (n : Net). n.refuted) (sym e) ∙ r.alive in
    let some : is_empty (ready_pairs l.network.links) ≡ false = not_empty (ready_pairs l.network.links) c x h in
    let made : l.network.deliveries ≡ w.network.deliveries = r.stands.network.deliveries ∙ ap (λ (n : Net). n.deliveries) (sym e) in
    let few = (world_is_small r.p r.words).deliveries in
    let most = r.few in
    record { begun = r.stands.begun; open_ = rw (alive, some) refl; few = omega arith }
  where
    not_empty : (xs : List (ℕ × ℕ)) (c : ℕ) (x : ℕ × ℕ) → slice_get xs c ≡ Some x → is_empty xs ≡ false
    not_empty [] c x h = cc
    not_empty (y ∷ ys) c x h = refl

-- ---- as the code has it

test_by : (x y : Carrier) (v u : NetworkState) (a b : ℕ) → y ≡ x → u ≡ v
    → nat_lt (acknowledged_of x.counts a b) (handed_up_of x.counts a b + length (link_of v.links a b)) ≡ nat_lt (acknowledged_of y.counts a b) (handed_up_of y.counts a b + length (link_of u.links a b))
test_by x y v u a b e f =
    sym (ap (λ (z : Carrier). nat_lt (acknowledged_of z.counts a b) (handed_up_of z.counts a b + length (link_of u.links a b))) e
    ∙ ap (λ (z : NetworkState). nat_lt (acknowledged_of x.counts a b) (handed_up_of x.counts a b + length (link_of z.links a b))) f)

pub counted_case : (word k i n : ℕ) (l new : Parts) (mid : Carrier) → Comes word (Counted k i n) l.carrier mid → Changes (Counted k i n) l.carrier mid → new.network ≡ l.network → new.carrier ≡ mid → new.agents ≡ l.agents → new.senders.agents ≡ l.senders.agents
    → ((a b : ℕ) → has_pair new.senders a b ≡ cond (a == k && b == i) (may_send (record l { carrier = mid }) a b) (has_pair l.senders a b)) → Does word (record { delivered = None; step = None }) l new
counted_case word k i n l new mid c h same e g u m =
    comes_counted word k i n l new (subst (λ (x : Carrier). Comes word (Counted k i n) l.carrier x) (sym e) c) (subst (λ (x : Carrier). Changes (Counted k i n) l.carrier x) (sym e) h) same g u
    (λ a b. m a b ∙ ap (λ z. cond (a == k && b == i) z (has_pair l.senders a b)) (test_by mid new.carrier l.network new.network a b e same))

flag_of : (s : NetworkState) → is_refuted (standing_in s) ≡ s.refuted
flag_of s = elim s.refuted as (λ b. is_refuted (cond b Refuted (cond (is_empty (ready_pairs s.links)) Quiet Open)) ≡ b) [
  | true ↦ refl
  | false ↦ elim (is_empty (ready_pairs s.links)) as (λ b. is_refuted (cond b Quiet Open) ≡ false) [ true ↦ refl | false ↦ refl ]
]

pub next_case : (word k i n c count : ℕ) (flag : Bool) (standing : Standing) (d : Delivery) (l new : Parts) (mid car : Carrier) (s : NetworkState) → word % 4 ≢ 0 → Comes word (Next k i n) l.carrier mid
    → l.network.spent ≡ false → count ≡ length (ready_pairs l.network.links) → ((net : Net) → StandsAt l.network net → l.network.spent ≡ false → count ≡ length (ready (csp_of l.network.problem) net))
    → slice_get (ready_pairs l.network.links) c ≡ Some (k, i)
    → ((net : Net) → StandsAt l.network net → CodeDelivers l.network.problem s net c d) → ((choices : List ℕ) → StandsAt l.network (reached l.network choices) → LeadsOn l.network s choices c d) → s.problem ≡ l.network.problem → s.begun ≡ true → s.spent ≡ false
    → standing ≡ standing_in s → flag ≡ is_refuted standing → HandsUp k i n flag mid car
    → new.network ≡ s → new.carrier ≡ car → new.agents ≡ l.agents → new.senders.agents ≡ l.senders.agents
    → ((a b : ℕ) → has_pair new.senders a b ≡ cond (a == i && nat_lt b l.agents) (may_send (record l { network = s; carrier = car }) a b) (has_pair l.senders a b))
    → Does word (record { delivered = Some c; step = d.step }) l new
next_case word k i n c count flag standing d l new mid car s kind comes sound many machine place delivers leads problem begun spent stands told hands en ec ea es m = comes_next word k i n c d.step l new mid (record {
  kind = kind;
  comes = comes;
  place = λ net at. subst (λ (xs : List (ℕ × ℕ)). slice_get xs c ≡ Some (k, i)) (ready_are l.network net at (sym many ∙ machine net at sound)) place;
  there = λ net at. subst (λ (x : NetworkState). StandsAt x (deliver (csp_of l.network.problem) c net)) (sym en) (delivers net at).stands;
  steps = λ net at. (delivers net at).steps;
  right = λ choices at. ((leads choices at).right, (leads choices at).in_range);
  hands = subst (λ (x : Carrier). HandsUp k i n new.network.refuted mid x) (sym ec) (subst (λ (b : Bool). HandsUp k i n b mid car) (told ∙ ap is_refuted stands ∙ flag_of s ∙ sym (ap (λ (x : NetworkState). x.refuted) en)) hands);
  problem = ap (λ (x : NetworkState). x.problem) en ∙ problem;
  begun = ap (λ (x : NetworkState). x.begun) en ∙ begun;
  sound = ap (λ (x : NetworkState). x.spent) en ∙ spent;
  agents = ea;
  senders = es;
  marks = λ a b. m a b ∙ ap (λ z. cond (a == i && nat_lt b l.agents) z (has_pair l.senders a b)) (test_by car new.carrier s new.network a b ec en);
})

-- ---- the start

pub at_start : (l new : Parts) (s : NetworkState) → IsBlank l → StandsAt s (start (csp_of l.network.problem)) → s.problem ≡ l.network.problem → s.begun ≡ true → s.spent ≡ false
    → new.network ≡ s → new.carrier ≡ l.carrier → new.agents ≡ l.agents → new.senders.agents ≡ l.senders.agents
    → ((a b : ℕ) → has_pair new.senders a b ≡ cond (nat_lt a l.agents && nat_lt b l.agents) (may_send (record l { network = s }) a b) (has_pair l.senders a b))
    → IsAt (csp_of l.network.problem) [] new
at_start l new s blank stands problem begun sound en ec ea es m = record {
  problem = ap (λ (x : NetworkState). csp_of x.problem) en ∙ ap csp_of problem;
  network = subst (λ (x : NetworkState). StandsAt x (start (csp_of l.network.problem))) (sym en) stands;
  carrier = subst (λ (x : Carrier). Carries (begin (csp_of l.network.problem)) x) (sym ec) (blank.carrier (csp_of l.network.problem));
  agents = ea ∙ blank.agents;
  senders = es ∙ blank.senders ∙ sym ea;
  marks = λ a b la lb.
      let e : l.agents ≡ count (csp_of l.network.problem) = blank.agents in
      let x : nat_lt a l.agents ≡ true = below_it a l.agents (omega arith) in
      let y : nat_lt b l.agents ≡ true = below_it b l.agents (omega arith) in
      m a b ∙ ap (λ z. cond (z && nat_lt b l.agents) (may_send (record l { network = s }) a b) (has_pair l.senders a b)) x
      ∙ ap (λ z. cond z (may_send (record l { network = s }) a b) (has_pair l.senders a b)) y ∙ test_by l.carrier new.carrier s new.network a b ec en;
  begun = ap (λ (x : NetworkState). x.begun) en ∙ begun;
  sound = ap (λ (x : NetworkState). x.spent) en ∙ sound;
}
