-- The measures after one delivery more.
use Rattle.std.proofs.Common.{◌≡◌, ◌≢◌, ◌∙◌, ℕ, zero, suc, ◌-◌, ◌%◌, ◌<◌, ◌≤◌, true, false, not, List, [], ◌∷◌, ◌++◌, map, length, max, get_or, slice_get, Result, Ok, Err, Some, inl, inr, refl, sym, ap, subst, arith, append-nil, IsSome}
use Rattle.std.specs.Prelude.{OnOk}
use Rattle.std.specs.List.{flat_map}
use Rattle.std.proofs.lemmas.Bool.Decides.{eqb_tells}
use Rattle.dcsp_defs.specs.Words.{In, below, sum_below}
use Rattle.dcsp_defs.specs.Csp.{Csp, IsCsp, count}
use Rattle.dcsp_defs.proofs.Lists.{In-below, get-In, filter-from}
use Rattle.dcsp_rule.specs.Problems.{csp_of}
use Rattle.abt_defs.specs.Agents.{Message}
use Rattle.abt_defs.specs.Network.{Network, deliver, is_empty, pairs, ready, start}
use Rattle.abt_defs.specs.Events.{Act, acts, later_acts, start_acts}
use Rattle.abt_defs.specs.Measures.{in_transit, most_in_transit, recorded_in}
use Rattle.law_agent.proofs.Runs.{In-pairs}
use Rattle.law_runs.proofs.NextActs.{has_head, next_act, choice_is, after_is, recorded_change, run_more, acts_more, transit_more, most_more, receivers_are}
use Rattle.abt_parts.specs.declared.message.Message.{Message as TheMessage}
use Rattle.abt_parts.specs.declared.message.SentTo.{SentTo}
use Rattle.abt_parts.specs.Messages.{message_of, told_sent}
use Rattle.abt_links.specs.Transit.{link_of}
use Rattle.abt_network.specs.Standing.{reached, NetworkState, StandsAt, TellsSent}
use Rattle.abt_measure.specs.declared.delivery.Coming.{Coming}
use Rattle.dcsp_defs.specs.declared.nogood.Pair.{Pair}
use Rattle.abt_measure.specs.Learning.{AreLearned}
use Rattle.abt_measure.specs.Measuring.{CountsNext, IsComing, IsCounted, IsMeasured, IsNext, MeasureState}

one_below : (f : ℕ → ℕ) (i n : ℕ) → i < n → f i ≤ sum_below f n
one_below f i zero l = absurd (omega arith)
one_below f i (suc n) l = elim (eqb_tells n i) [
  | inl t ↦ let e : f n ≡ f i = ap f t.1 in omega arith
  | inr t ↦ let ne : n ≢ i = t.1 in let r = one_below f i n (omega arith) in omega arith
]

pub all_told : (xs : List (ℕ × Message)) (n : ℕ) → ((y : ℕ × Message) → In y xs → y.0 < n) → (k : ℕ) (d : SentTo) → k < length (map told_sent xs) → (get_or (map told_sent xs) k d).to < n
all_told [] n h k d l = absurd (omega arith)
all_told (x ∷ xs) n h zero d l = h x (inl refl)
all_told (x ∷ xs) n h (suc k) d l = all_told xs n (λ y u. h y (inr u)) k d (omega arith)

pub minus_both : (a b c d : ℕ) → a ≡ c → b ≡ d → a - b ≡ c - d
minus_both a b c d e f = ap (λ z. z - b) e ∙ ap (λ z. c - z) f

pub record Head (l : List Message) : Type 0 where
  pub message : Message
  pub rest : List Message
  pub is : l ≡ message ∷ rest

head_of : (l : List Message) → is_empty l ≡ false → Head l
head_of [] h = absurd (let z = h in cc)
head_of (x ∷ xs) h = record { message = x; rest = xs; is = refl }

module _ (s : NetworkState) (choices : List ℕ) (st : StandsAt s (reached s choices)) (c n k i : ℕ) (n_is : n ≡ length (ready (csp_of s.problem) (reached s choices))) (pair : slice_get (ready (csp_of s.problem) (reached s choices)) (c % n) ≡ Some (k, i)) where
  abbrev pub p : Csp
  p = csp_of s.problem

  abbrev pub net : Network
  net = reached s choices

  pub chosen : slice_get (ready p net) (c % length (ready p net)) ≡ Some (k, i)
  chosen = subst (λ z. slice_get (ready p net) (c % z) ≡ Some (k, i)) n_is pair

  pub receiver : i < length s.problem.domains
  receiver = In-below (count p) i (In-pairs (count p) (k, i) (below (count p)) (filter-from (λ (y : ℕ × ℕ). not (is_empty (net.links y.0 y.1))) (k, i) (pairs (count p)) (get-In (ready p net) (c % length (ready p net)) (k, i) chosen)).0).0

  waiting : is_empty (net.links k i) ≡ false
  waiting = has_head p net (c % length (ready p net)) (k, i) chosen

  pub some : link_of s.links k i ≢ []
  some e = let z : true ≡ false = ap is_empty (ap (map message_of) (sym e) ∙ st.parts.lists k i) ∙ waiting in cc

  pub head : Head (net.links k i)
  head = head_of (net.links k i) waiting

  abbrev pub a : Act
  a = next_act p net c k i head.message head.rest chosen head.is

  sends : (told : List SentTo) → TellsSent s.problem told net c → told ≡ map told_sent a.sent
  sends told e = e ∙ ap (λ (l : List Act). map told_sent (flat_map (λ (x : Act). x.sent) l)) (choice_is p net c k i head.message head.rest chosen head.is) ∙ ap (map told_sent) (append-nil a.sent)

  module _ (alive : net.refuted ≡ false) where
    pub receivers : IsCsp p → (told : List SentTo) (m : ℕ) → m ≡ count p → TellsSent s.problem told net c → (j : ℕ) (d : SentTo) → j < length told → (get_or told j d).to < m
    receivers ok told m same e = subst (λ (l : List SentTo). (j : ℕ) (d : SentTo) → j < length l → (get_or l j d).to < m) (sym (sends told e))
        (all_told a.sent m (λ y u. let r = receivers_are p net c k i head.message head.rest chosen head.is choices refl alive ok y u in omega arith))

    -- what was counted is that of the run with this choice more
    pub measured_next : (coming : Coming) (told : List SentTo) (old new : MeasureState) → ((m : Message) (rest : List Message) → net.links k i ≡ m ∷ rest → IsComing (net.agents i) k i m coming) → TellsSent s.problem told net c
        → IsMeasured p choices old → (IsNext a i coming told (deliver p c net) → CountsNext p (acts p choices) a coming.before old new) → IsMeasured p (choices ++ c ∷ []) new
    measured_next coming told old new saw e h f =
        let m = head.message in
        let rest = head.rest in
        let see = saw m rest head.is in
        let next = f (record {
          agent = refl;
          message = m;
          came = ap (λ z. Some (z, m)) (sym see.from);
          saw = subst (λ z. IsComing (net.agents i) z i m coming) (sym see.from) see;
          after = after_is p net c k i m rest chosen head.is;
          sent_is = sends told e;
        }) in
        let more = acts_more p net c k i m rest chosen head.is choices refl alive in
        let now = subst (λ (l : List Act). IsCounted p l new) (sym more) next.counted in
        let change = recorded_change p net c k i m rest chosen head.is receiver in
        let small = one_below (λ j. length (net.agents j).recorded) i (count p) receiver in
        let was = h.recorded in
        let before = see.before in
        let after_run = run_more p net c k i m rest chosen head.is choices refl alive in
        let there : new.recorded ≡ recorded_in p (deliver p c net) = (let r = next.recorded in omega arith) in
        let transit : new.sent - new.got ≡ in_transit (acts p (choices ++ c ∷ [])) = minus_both new.sent new.got _ _ now.sent now.got in
        record {
          counted = now;
          transit = next.most_in_transit ∙ ap (λ z. max z (new.sent - new.got)) h.transit ∙ ap (max (most_in_transit (start_acts p) (later_acts p choices (start p)))) transit ∙ sym (transit_more p net c k i m rest chosen head.is choices refl alive);
          recorded = there ∙ ap (recorded_in p) (sym after_run);
          most = next.most_recorded ∙ ap (λ z. max z new.recorded) h.most ∙ ap (max _) there ∙ sym (most_more p net c k i m rest chosen head.is choices refl alive);
        }

    pub measured_ok : {T E : Type 0} → (r : Result T E) (coming : Coming) (told : List SentTo) (old new : MeasureState) → ((m : Message) (rest : List Message) → net.links k i ≡ m ∷ rest → IsComing (net.agents i) k i m coming) → TellsSent s.problem told net c
        → IsMeasured p choices old → (IsNext a i coming told (deliver p c net) → OnOk r (CountsNext p (acts p choices) a coming.before old new)) → OnOk r (IsMeasured p (choices ++ c ∷ []) new)
    measured_ok (Ok x) coming told old new saw e h f = measured_next coming told old new saw e h f
    measured_ok (Err y) coming told old new saw e h f = tt

    -- what was told is that of the run with this choice more
    pub heard : {T E : Type 0} → (r : Result T E) (m : Message) (new : List (List Pair)) → slice_get (net.links k i) 0 ≡ Some m → (a.came ≡ Some (k, m) → OnOk r (AreLearned (acts p choices ++ a ∷ []) new)) → OnOk r (AreLearned (acts p (choices ++ c ∷ [])) new)
    heard r m new e f =
        let first : slice_get (head.message ∷ head.rest) 0 ≡ Some m = ap (λ (l : List Message). slice_get l 0) (sym head.is) ∙ e in
        let same : head.message ≡ m = cc in
        subst (λ (l : List Act). OnOk r (AreLearned l new)) (sym (acts_more p net c k i head.message head.rest chosen head.is choices refl alive)) (f (ap (λ z. Some (k, z)) same))

pub has_first : (l : List TheMessage) → l ≢ [] → IsSome (slice_get l 0)
has_first [] h = absurd (h refl)
has_first (x ∷ xs) h = refl
