-- The act of the next delivery.
use Rattle.std.proofs.Common.{◌≡◌, ◌≢◌, ℕ, zero, suc, ◌+◌, ◌%◌, ◌<◌, Bool, true, false, cond, not, inl, inr, List, [], ◌∷◌, ◌++◌, ◌==◌, length, max, slice_get, Some, refl, sym, ap, ◌∙◌, arith, subst, append_assoc}
use Rattle.std.proofs.lemmas.Bool.Decides.{eqb_tells}
use Rattle.dcsp_defs.specs.Words.{In, sum_below}
use Rattle.dcsp_defs.specs.Csp.{Csp, IsCsp, count}
use Rattle.dcsp_defs.proofs.Lists.{In-right, get-In, filter-from}
use Rattle.abt_defs.specs.Agents.{Agent, Message}
use Rattle.abt_defs.specs.Steps.{Outcome, receive}
use Rattle.abt_defs.specs.Network.{Network, acted, left, next_number, deliver, deliver_at, deliver_head, ready, run, start, sent_to, is_empty, pairs}
use Rattle.abt_defs.specs.Events.{Act, act_of, acts, acts_at, head_acts, choice_acts, later_acts, start_acts}
use Rattle.abt_defs.specs.Measures.{in_transit, most_in_transit, most_recorded, recorded_in}
use Rattle.law_runs.proofs.Joins.{links_join}
use Rattle.law_runs.proofs.ActsGoing.{run-more, later-more, recorded-more, transit-more}

-- a sum of which one number changes
pub one_changes : (f g : ℕ → ℕ) (i n : ℕ) → i < n → ((j : ℕ) → j ≢ i → g j ≡ f j) → sum_below g n + f i ≡ sum_below f n + g i
one_changes f g i zero l h = absurd (omega arith)
one_changes f g i (suc n) l h = elim (eqb_tells n i) [
  | inl t ↦
      let same : sum_below g n ≡ sum_below f n = below n (λ j u. h j (λ e. let d = t.1 in omega arith)) in
      let a : g n ≡ g i = ap g t.1 in
      let b : f n ≡ f i = ap f t.1 in
      omega arith
  | inr t ↦
      let ne : n ≢ i = t.1 in
      let e = h n ne in
      let r = one_changes f g i n (omega arith) h in omega arith
]
  where
    below : (m : ℕ) → ((j : ℕ) → j < m → g j ≡ f j) → sum_below g m ≡ sum_below f m
    below zero u = refl
    below (suc m) u = let r = below m (λ j v. u j (omega arith)) in let e = u m (omega arith) in omega arith

-- a list from which a choice delivers is not empty
pub has_head : (p : Csp) (net : Network) (n : ℕ) (x : ℕ × ℕ) → slice_get (ready p net) n ≡ Some x → is_empty (net.links x.0 x.1) ≡ false
has_head p net n x e = flip (is_empty (net.links x.0 x.1)) (filter-from (λ (y : ℕ × ℕ). not (is_empty (net.links y.0 y.1))) x (pairs (count p)) (get-In (ready p net) n x e)).1
  where
    flip : (b : Bool) → not b ≡ true → b ≡ false
    flip true h = cc
    flip false h = refl

in-sent : (x : ℕ × Message) (sent : List (ℕ × Message)) → In x sent → In x.1 (sent_to x.0 sent)
in-sent x [] h = absurd h
in-sent x (y ∷ ys) (inl e) = elim (eqb_tells y.0 x.0) [
  | inl t ↦ rw t.0 (inl (ap (λ (z : ℕ × Message). z.1) e))
  | inr t ↦ absurd (t.1 (ap (λ (z : ℕ × Message). z.0) (sym e)))
]
in-sent x (y ∷ ys) (inr h) = elim (y.0 == x.0) as (λ b. In x.1 (cond b (y.1 ∷ sent_to x.0 ys) (sent_to x.0 ys))) [
  | true ↦ inr (in-sent x ys h)
  | false ↦ in-sent x ys h
]

module _ (p : Csp) (net : Network) (c k i : ℕ) (m : Message) (rest : List Message) (chosen : slice_get (ready p net) (c % length (ready p net)) ≡ Some (k, i)) (head : net.links k i ≡ m ∷ rest) where
  abbrev pub outcome : Outcome
  outcome = receive p i (next_number net) (net.agents i) k m

  abbrev pub next_act : Act
  next_act = act_of i (Some (k, m)) (net.agents i) outcome

  pub choice_is : choice_acts p c net ≡ next_act ∷ []
  choice_is = ap (λ x. acts_at p x net) chosen ∙ ap (λ l. head_acts p k i l net) head

  deliver_is : deliver p c net ≡ acted i outcome (left k i rest net)
  deliver_is = ap (λ x. deliver_at p x net) chosen ∙ ap (λ l. deliver_head p k i l net) head

  pub after_is : (deliver p c net).agents i ≡ next_act.after
  after_is = ap (λ (n : Network). n.agents i) deliver_is ∙ elim (eqb_tells i i) [ inl t ↦ rw t.0 refl | inr t ↦ absurd (t.1 refl) ]

  others_are : (j : ℕ) → j ≢ i → (deliver p c net).agents j ≡ net.agents j
  others_are j ne = ap (λ (n : Network). n.agents j) deliver_is ∙ elim (eqb_tells j i) [ inl t ↦ absurd (ne t.1) | inr t ↦ rw t.0 refl ]

  pub recorded_change : i < count p → recorded_in p (deliver p c net) + length (net.agents i).recorded ≡ recorded_in p net + length next_act.after.recorded
  recorded_change l =
      let f = λ (j : ℕ). length (net.agents j).recorded in
      let g = λ (j : ℕ). length ((deliver p c net).agents j).recorded in
      one_changes f g i (count p) l (λ j ne. ap (λ (a : Agent). length a.recorded) (others_are j ne)) ∙ ap (λ (a : Agent). sum_below f (count p) + length a.recorded) after_is

  module _ (choices : List ℕ) (is : run p choices (start p) ≡ net) (alive : net.refuted ≡ false) where
    alive_there : (run p choices (start p)).refuted ≡ false
    alive_there = ap (λ (n : Network). n.refuted) is ∙ alive

    pub run_more : run p (choices ++ c ∷ []) (start p) ≡ deliver p c net
    run_more = run-more p choices c (start p) alive_there ∙ ap (deliver p c) is

    later_more : later_acts p (choices ++ c ∷ []) (start p) ≡ later_acts p choices (start p) ++ next_act ∷ []
    later_more = later-more p choices c (start p) alive_there ∙ ap (λ l. later_acts p choices (start p) ++ l) (ap (choice_acts p c) is ∙ choice_is)

    pub acts_more : acts p (choices ++ c ∷ []) ≡ acts p choices ++ next_act ∷ []
    acts_more = ap (λ l. start_acts p ++ l) later_more ∙ sym (append_assoc (start_acts p) (later_acts p choices (start p)) (next_act ∷ []))

    pub transit_more : most_in_transit (start_acts p) (later_acts p (choices ++ c ∷ []) (start p)) ≡ max (most_in_transit (start_acts p) (later_acts p choices (start p))) (in_transit (acts p (choices ++ c ∷ [])))
    transit_more =
        let t = transit-more (start_acts p) (later_acts p choices (start p)) next_act in
        ap (most_in_transit (start_acts p)) later_more ∙ t ∙ ap (λ l. max (most_in_transit (start_acts p) (later_acts p choices (start p))) (in_transit l)) (sym acts_more)

    pub most_more : most_recorded p (choices ++ c ∷ []) (start p) ≡ max (most_recorded p choices (start p)) (recorded_in p (deliver p c net))
    most_more = recorded-more p choices c (start p) alive_there ∙ ap (λ n. max (most_recorded p choices (start p)) (recorded_in p (deliver p c n))) is

    -- each message goes to an agent of the problem
    pub receivers_are : IsCsp p → (x : ℕ × Message) → In x next_act.sent → x.0 < count p
    receivers_are ok x u =
        let after = acted i outcome (left k i rest net) in
        let there : In x.1 (after.links i x.0) = elim (eqb_tells i i) [
          | inl t ↦ rw t.0 (In-right x.1 ((left k i rest net).links i x.0) (sent_to x.0 outcome.sent) (in-sent x outcome.sent u))
          | inr t ↦ absurd (t.1 refl)
        ] in
        (links_join p ok (choices ++ c ∷ []) i x.0 x.1 (subst (λ (n : Network). In x.1 (n.links i x.0)) (sym (run_more ∙ deliver_is)) there)).receiver
