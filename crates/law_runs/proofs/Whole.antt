-- The verdicts of a whole run.
use Rattle.std.proofs.Common.{◌≡◌, ◌≢◌, ◌≤◌, ◌+◌, ℕ, mod-lt, length-append, zero, suc, ◌-◌, ◌<◌, ◌%◌, Bool, true, false, cond, not, inl, inr, List, [], ◌∷◌, length, map, filter, flat_map, Option, Some, None, is_some, unwrap_or, slice_get, ◌==◌, refl, sym, ap, ◌∙◌, subst, arith, find}
use Rattle.std.specs.List.{enumerate_from}
use Rattle.std.proofs.lemmas.Bool.Decides.{nat_tests}
use Rattle.dcsp_defs.specs.Words.{In, below}
use Rattle.dcsp_defs.specs.Csp.{Csp, Constraint, IsCsp, count}
use Rattle.dcsp_defs.specs.Derivation.{IsDerivation, IsRefutation}
use Rattle.abt_defs.specs.Agents.{Message}
use Rattle.abt_defs.specs.Network.{Network, ready, deliver, deliver_at, deliver_head, run, start, start_by, pairs, is_empty, is_false, IsQuiet, IsSolved}
use Rattle.abt_defs.specs.Runs.{End, Refuted, Solved, Capped, Spent, Run, stop, stopped, go, delivery, delivery_at, head_on, with_delivery, whole}
use Rattle.abt_defs.specs.Bound.{message_bound}
use Rattle.dcsp_defs.proofs.Lists.{In-left, In-right, In-below, below-In, In-map, In-filter, get-In, filter-from}
use Rattle.dcsp_defs.proofs.Sound.{refutations_refute}
use Rattle.law_agent.proofs.Runs.{In-pairs}
use Rattle.law_runs.proofs.Stall.{no_stall}
use Rattle.law_runs.proofs.BoundRuns.{Goes as Counts, goes_run, goes_start, no_deliveries}
use Rattle.law_runs.proofs.Below.{below_bound}
use Rattle.law_agent.proofs.StepRuns.{steps_right}
use Rattle.law_agent.proofs.Ends.{refuted_refutes}
use Rattle.law_runs.specs.Replay.{Verdicts, AllVerdicts}
use Rattle.law_runs.proofs.Again.{goes, not_empty, remainder_again}

-- the network of a run is that of its numbers
reached : (p : Csp) (most : ℕ) (cs : List ℕ) (net : Network) → (go p most cs net).net ≡ run p (go p most cs net).numbers net
reached p most [] net = refl
reached p most (c ∷ cs) net =
    (elim (is_some (stop p most net)) as (λ b. is_some (stop p most net) ≡ b → let r : Run = cond b (stopped p most (c ∷ cs) net) (with_delivery (c % length (ready p net)) (delivery p c net) (go p (most - 1) cs (deliver p c net))) in r.net ≡ run p r.numbers net) [
      | true ↦ λ e. refl
      | false ↦ λ e.
          let g = goes p most net e in
          let m = remainder_again c (length (ready p net)) (not_empty (ready p net) g.transit) in
          let d : deliver p (c % length (ready p net)) net ≡ deliver p c net = ap (λ k. deliver_at p (slice_get (ready p net) k) net) m in
          reached p (most - 1) cs (deliver p c net) ∙ ap (run p (go p (most - 1) cs (deliver p c net)).numbers) (sym d)
          ∙ sym (ap (λ b. cond b net (run p (go p (most - 1) cs (deliver p c net)).numbers (deliver p (c % length (ready p net)) net))) g.alive)
    ]) refl

-- what an end says of the network
abbrev EndMeans : Csp → Network → End → Type 0
EndMeans p net Refuted = net.refuted ≡ true
EndMeans p net Solved = (net.refuted ≡ false) × (is_empty (ready p net) ≡ true)
EndMeans p net Capped = (net.refuted ≡ false) × (is_empty (ready p net) ≡ false)
EndMeans p net Spent = (net.refuted ≡ false) × (is_empty (ready p net) ≡ false)

stop_means : (p : Csp) (most : ℕ) (net : Network) → EndMeans p net (unwrap_or (stop p most net) Spent)
stop_means p most net = by_test net.refuted (is_empty (ready p net)) (most == 0) refl refl
  where
    by_test : (a b c : Bool) → net.refuted ≡ a → is_empty (ready p net) ≡ b → EndMeans p net (unwrap_or (cond a (Some Refuted) (cond b (Some Solved) (cond c (Some Capped) None))) Spent)
    by_test true b c x y = x
    by_test false true c x y = (x, y)
    by_test false false true x y = (x, y)
    by_test false false false x y = (x, y)

end_means : (p : Csp) (most : ℕ) (cs : List ℕ) (net : Network) → EndMeans p (go p most cs net).net (go p most cs net).end
end_means p most [] net = stop_means p most net
end_means p most (c ∷ cs) net = elim (is_some (stop p most net)) as (λ b. let r : Run = cond b (stopped p most (c ∷ cs) net) (with_delivery (c % length (ready p net)) (delivery p c net) (go p (most - 1) cs (deliver p c net))) in EndMeans p r.net r.end) [
  | true ↦ stop_means p most net
  | false ↦ end_means p (most - 1) cs (deliver p c net)
]

-- ---- the lists

empty-nil : {X : Type 0} → (xs : List X) → is_empty xs ≡ true → xs ≡ []
empty-nil [] h = refl
empty-nil (x ∷ xs) h = cc

In-flat_map : {X Y : Type 0} → (f : X → List Y) (x : X) (y : Y) (xs : List X) → In x xs → In y (f x) → In y (flat_map f xs)
In-flat_map f x y [] h u = absurd h
In-flat_map f x y (z ∷ zs) (inl e) u = In-left y (f z) (flat_map f zs) (subst (λ w. In y (f w)) e u)
In-flat_map f x y (z ∷ zs) (inr h) u = In-right y (f z) (flat_map f zs) (In-flat_map f x y zs h u)

pub quiet_if_none : (p : Csp) (net : Network) → is_empty (ready p net) ≡ true → IsQuiet p net
quiet_if_none p net h k i lk li = by_test (is_empty (net.links k i)) refl
  where
    here : In (k, i) (pairs (count p))
    here = In-flat_map (λ k. map (λ i. (k, i)) (below (count p))) k (k, i) (below (count p)) (below-In (count p) k lk) (In-map (λ (i : ℕ). (k, i)) i (below (count p)) (below-In (count p) i li))

    by_test : (b : Bool) → is_empty (net.links k i) ≡ b → net.links k i ≡ []
    by_test true e = empty-nil (net.links k i) e
    by_test false e = absurd (subst (In (k, i)) (empty-nil (ready p net) h) (In-filter (λ (x : ℕ × ℕ). not (is_empty (net.links x.0 x.1))) (k, i) (pairs (count p)) here (ap not e)))

-- ---- the number of deliveries

-- a choice that finds something in transit makes one delivery
pub delivers_one : (p : Csp) (c : ℕ) (net : Network) → is_empty (ready p net) ≡ false → ((deliver p c net).deliveries ≡ net.deliveries + 1) × (length (delivery p c net) ≡ 1)
delivers_one p c net t = by_pair (slice_get (ready p net) (c % length (ready p net))) refl
  where
    l : c % length (ready p net) < length (ready p net)
    l = mod-lt c (not_empty (ready p net) t)

    some : {X : Type 0} → (xs : List X) (n : ℕ) → n < length xs → slice_get xs n ≡ None → ⊥
    some [] n u e = absurd (omega arith)
    some (x ∷ xs) zero u e = cc
    some (x ∷ xs) (suc n) u e = some xs n (omega arith) e

    by_list : (x : ℕ × ℕ) (ms : List Message) → is_empty ms ≡ false → ((deliver_head p x.0 x.1 ms net).deliveries ≡ net.deliveries + 1) × (length (head_on x.0 x.1 ms) ≡ 1)
    by_list x [] e = cc
    by_list x (m ∷ ms) e = (refl, refl)

    not_true : (b : Bool) → not b ≡ true → b ≡ false
    not_true true h = cc
    not_true false h = refl

    by_pair : (o : Option (ℕ × ℕ)) → slice_get (ready p net) (c % length (ready p net)) ≡ o → ((deliver_at p o net).deliveries ≡ net.deliveries + 1) × (length (delivery_at o net) ≡ 1)
    by_pair None e = absurd (some (ready p net) (c % length (ready p net)) l e)
    by_pair (Some x) e = by_list x (net.links x.0 x.1) (not_true _ (filter-from (λ (x : ℕ × ℕ). not (is_empty (net.links x.0 x.1))) x (pairs (count p)) (get-In (ready p net) _ x e)).1)

-- how many deliveries a run makes
pub record Tally (most : ℕ) (net : Network) (r : Run) : Type 0 where
  pub numbers : r.net.deliveries ≡ net.deliveries + length r.numbers
  pub trace : length r.trace ≡ length r.numbers
  pub at_most : length r.numbers ≤ most
  pub capped : r.end ≡ Capped → length r.numbers ≡ most
  pub spent : r.end ≡ Spent → r.left ≡ []

stop_at : (p : Csp) (most : ℕ) (net : Network) → unwrap_or (stop p most net) Spent ≡ Capped → 0 ≡ most
stop_at p most net h = by_test net.refuted (is_empty (ready p net)) (most == 0) refl h
  where
    by_test : (a b c : Bool) → (most == 0) ≡ c → unwrap_or (cond a (Some Refuted) (cond b (Some Solved) (cond c (Some Capped) None))) Spent ≡ Capped → 0 ≡ most
    by_test true b c e g = cc
    by_test false true c e g = cc
    by_test false false true e g = grind (arith, nat_tests)
    by_test false false false e g = cc

stop_not_spent : (p : Csp) (most : ℕ) (net : Network) → is_some (stop p most net) ≡ true → unwrap_or (stop p most net) Spent ≡ Spent → ⊥
stop_not_spent p most net s h = by_test net.refuted (is_empty (ready p net)) (most == 0) s h
  where
    by_test : (a b c : Bool) → is_some (cond a (Some Refuted) (cond b (Some Solved) (cond c (Some Capped) None))) ≡ true → unwrap_or (cond a (Some Refuted) (cond b (Some Solved) (cond c (Some Capped) None))) Spent ≡ Spent → ⊥
    by_test true b c e g = cc
    by_test false true c e g = cc
    by_test false false true e g = cc
    by_test false false false e g = cc

tally : (p : Csp) (most : ℕ) (cs : List ℕ) (net : Network) → Tally most net (go p most cs net)
tally p most [] net = record { numbers = omega arith; trace = refl; at_most = omega arith; capped = stop_at p most net; spent = λ e. refl }
tally p most (c ∷ cs) net =
    (elim (is_some (stop p most net)) as (λ b. is_some (stop p most net) ≡ b → Tally most net (cond b (stopped p most (c ∷ cs) net) (with_delivery (c % length (ready p net)) (delivery p c net) (go p (most - 1) cs (deliver p c net))))) [
      | true ↦ λ e. record { numbers = omega arith; trace = refl; at_most = omega arith; capped = stop_at p most net; spent = λ f. absurd (stop_not_spent p most net e f) }
      | false ↦ λ e.
          let g = goes p most net e in
          let positive : most ≢ 0 = g.left in
          let t = tally p (most - 1) cs (deliver p c net) in
          let d = delivers_one p c net g.transit in
          let rest = go p (most - 1) cs (deliver p c net) in
          record {
            numbers = let x = t.numbers in let y = d.0 in omega arith;
            trace = length-append (delivery p c net) rest.trace ∙ (let x = t.trace in let y = d.1 in omega arith);
            at_most = let x = t.at_most in omega arith;
            capped = λ f. let x = t.capped f in omega arith;
            spent = t.spent;
          }
    ]) refl

none_at_start : (p : Csp) (o : Option (ℕ × Constraint)) → (start_by p o).deliveries ≡ 0
none_at_start p None = no_deliveries p (count p)
none_at_start p (Some x) = refl

-- ---- all together

module _ (p : Csp) (ok : IsCsp p) (most : ℕ) (cs : List ℕ) where
  means : EndMeans p (whole p most cs).net (whole p most cs).end
  means = end_means p most cs (start p)

  same : (whole p most cs).net ≡ run p (whole p most cs).numbers (start p)
  same = reached p most cs (start p)

  counts : Counts p (whole p most cs).net
  counts = subst (Counts p) (sym same) (goes_run p (whole p most cs).numbers (start p) (goes_start p ok))

  counted : Tally most (start p) (whole p most cs)
  counted = tally p most cs (start p)

  from_none : (start p).deliveries ≡ 0
  from_none = none_at_start p (find (λ (x : ℕ × Constraint). is_false x.1) (enumerate_from 0 p.constraints))

  refutation : (whole p most cs).end ≡ Refuted → IsRefutation p (whole p most cs).net.steps
  refutation e =
      let m : EndMeans p (whole p most cs).net Refuted = subst (EndMeans p (whole p most cs).net) e means in
      subst (λ (n : Network). IsRefutation p n.steps) (sym same) (refuted_refutes p ok (whole p most cs).numbers (ap (λ (n : Network). n.refuted) (sym same) ∙ m))

  pub verdicts_of : Verdicts p most (whole p most cs)
  verdicts_of = record {
    solved = λ e.
        let m : EndMeans p (whole p most cs).net Solved = subst (EndMeans p (whole p most cs).net) e means in
        let q : IsQuiet p (whole p most cs).net = quiet_if_none p (whole p most cs).net m.1 in
        subst (IsSolved p) (sym same) (no_stall p ok (whole p most cs).numbers (ap (λ (n : Network). n.refuted) (sym same) ∙ m.0) (subst (IsQuiet p) same q));
    right = subst (λ (n : Network). IsDerivation p n.steps) (sym same) (steps_right p ok (whole p most cs).numbers);
    refuted = refutation;
    no_solution = λ e. refutations_refute p ok (whole p most cs).net.steps (refutation e);
    at_most = let a = counted.numbers in let b = counted.at_most in let z = from_none in omega arith;
    capped = λ e. let a = counted.numbers in let b = counted.capped e in let z = from_none in omega arith;
    spent = counted.spent;
    counted = let a = counted.numbers in let z = from_none in omega arith;
    traced = let a = counted.numbers in let b = counted.trace in let z = from_none in omega arith;
    bound = counts.small;
    unfinished = λ e. elim e [
      | inl c ↦ let m : EndMeans p (whole p most cs).net Capped = subst (EndMeans p (whole p most cs).net) c means in below_bound p (whole p most cs).net counts m.0 m.1
      | inr c ↦ let m : EndMeans p (whole p most cs).net Spent = subst (EndMeans p (whole p most cs).net) c means in below_bound p (whole p most cs).net counts m.0 m.1
    ];
  }

pub verdicts : (p : Csp) → AllVerdicts p
verdicts p ok most cs = verdicts_of p ok most cs
