-- Right steps under an order are right, renumbered, for the problem.
use Rattle.std.proofs.Common.{◌≡◌, ℕ, zero, suc, ◌-◌, ◌<◌, Bool, true, not, cond, List, [], ◌∷◌, map, take, length, slice_get, Option, Some, None, is_some, unwrap_or, refl, sym, ap, ◌∙◌, inl, inr, subst, arith, MatchOption}
use Rattle.std.specs.Prelude.{ℤ, pos, ◌==◌, IsSomeAnd}
use Rattle.std.specs.List.{list_all, AllZip}
use Rattle.std.specs.Option.{option_map}
use Rattle.std.proofs.lemmas.Bool.Decides.{eqb_tells}
use Rattle.std.proofs.lemmas.List.{length-map, take-map}
use Rattle.dcsp_defs.specs.declared.nogood.Pair.{Pair}
use Rattle.dcsp_defs.specs.declared.Step.{Step}
use Rattle.dcsp_defs.specs.declared.Reason.{Reason}
use Rattle.dcsp_defs.specs.declared.Reason.TheVariants.{Rule as By_rule, Earlier}
use Rattle.dcsp_defs.specs.Words.{In, is_value}
use Rattle.dcsp_defs.specs.Pairs.{pair_of, value_at}
use Rattle.dcsp_defs.specs.Csp.{Constraint, Nogood, PartialAssignment, domain, filled, given_with, is_violated, agrees}
use Rattle.dcsp_defs.specs.Derivation.{step_at, IsReason, IsRightAt, IsRightNowhere, IsRight, EndsEmpty}
use Rattle.dcsp_defs.proofs.Lists.{and_left, and_right, and_both, list_all-In, In-list_all, get-In}
use Rattle.dcsp_rule.specs.declared.rule.Rule.{Rule}
use Rattle.dcsp_rule.specs.Rules.{scope_of, rule_truth}
use Rattle.dcsp_rule.specs.Problems.{Contents, constraint_of, csp_of}
use Rattle.dcsp_problem.specs.WellFormed.{IsProblem}
use Rattle.dcsp_problem.proofs.RisingNumbers.{In-filter_below}
use Rattle.dcsp_rule.specs.Rules.{mentions}
use Rattle.dcsp_order.specs.Orders.{number_at, place_of, IsOrder}
use Rattle.dcsp_order.specs.Under.{rule_under, under, by_number}
use Rattle.dcsp_order.specs.Renumbered.{pairs_renumbered, step_renumbered}
use Rattle.dcsp_order.specs.Laws.{DerivationsCome, RefutationsCome}
use Rattle.dcsp_order.proofs.Mapped.{map_get, get_map, all_zip}
use Rattle.dcsp_order.proofs.Places.{low_place, low_number, number_back, place_back}
use Rattle.dcsp_order.proofs.Rules.{same_truth, truth_stays, rule_known, scope_goes}
use Rattle.dcsp_order.proofs.Solutions.{same_count, domain_there, domain_of_place}
use Rattle.dcsp_order.proofs.Pairs.{pair_from, rising_renumbered, given_renumbered, none_renumbered}

no_members : (ks : List ℕ) → ((k : ℕ) → In k ks → ⊥) → ks ≡ []
no_members [] none = refl
no_members (k ∷ ks) none = absurd (none k (inl refl))

module _ (p : Contents) (ok : IsProblem p) (order : List ℕ) (good : IsOrder (length p.domains) order) where
  abbrev n : ℕ
  n = length p.domains

  abbrev m : ℕ
  m = length (under order p).domains

  -- the rule and its constraint under the order
  record Pairing (number : ℕ) (c : Constraint) : Type 0 where
    rule : Rule
    here : In rule p.rules
    there : slice_get (csp_of p).constraints number ≡ Some (constraint_of n rule)
    is : constraint_of m (rule_under order rule) ≡ c

  pairing : (number : ℕ) (c : Constraint) → slice_get (csp_of (under order p)).constraints number ≡ Some c → Pairing number c
  pairing number c e =
      let moved = map_get (constraint_of m) (under order p).rules number c e in
      let from = map_get (rule_under order) p.rules number moved.0 moved.1 in
      record {
        rule = from.0;
        here = get-In p.rules number from.0 from.1;
        there = get_map (constraint_of n) p.rules number from.0 from.1;
        is = ap (constraint_of m) from.2 ∙ moved.2;
      }

  low : (k : ℕ) → k < n → place_of order k < m
  low k l = let there = low_place n order good k l in let same = same_count p ok order good in omega (arith, there, same)

  in_order : (k : ℕ) → k < n → k < length order
  in_order k l = let whole = good.whole in omega (arith, l, whole)

  scope_low : (rule : Rule) (k : ℕ) → In k (scope_of n rule) → k < n
  scope_low rule k i = (In-filter_below (mentions rule) n k i).0

  -- values by numbers and by places, of which each variable has the same
  module _ (known there : PartialAssignment) (same : (k : ℕ) → k < n → known k ≡ there (place_of order k)) where
    same_filled : (k : ℕ) → k < n → by_number order (filled there) k ≡ filled known k
    same_filled k l = ap (λ (o : Option ℤ). unwrap_or o (pos 0)) (sym (same k l))

    stays_violated : (number : ℕ) (c : Constraint) (q : Pairing number c) → is_violated there c ≡ true → is_violated known (constraint_of n q.rule) ≡ true
    stays_violated number c q e =
        let moved : Constraint = constraint_of m (rule_under order q.rule) in
        let v : is_violated there moved ≡ true = ap (is_violated there) q.is ∙ e in
        let all = and_left (list_all (λ k. is_some (there k)) moved.scope) (not (moved.test (filled there))) v in
        let no = and_right (list_all (λ k. is_some (there k)) moved.scope) (not (moved.test (filled there))) v in
        let here : Constraint = constraint_of n q.rule in
        let truth : rule_truth q.rule (filled known) ≡ rule_truth (rule_under order q.rule) (filled there) =
        sym (same_truth order (filled there) q.rule ∙ truth_stays n q.rule (rule_known p ok q.rule q.here) (by_number order (filled there)) (filled known) same_filled)
        in
        and_both (list_all (λ k. is_some (known k)) here.scope) (not (here.test (filled known)))
        (In-list_all (λ k. is_some (known k)) here.scope (λ k i.
        let l = scope_low q.rule k i in
        ap is_some (same k l) ∙ list_all-In (λ k. is_some (there k)) (place_of order k) moved.scope all (scope_goes n m order q.rule k i (low k l))))
        (ap not truth ∙ no)

    still_agrees : (pairs : Nogood) → agrees there pairs ≡ true → agrees known (pairs_renumbered order pairs) ≡ true
    still_agrees pairs e = In-list_all (λ (y : Pair). is_value (known y.var) y.value) (pairs_renumbered order pairs) (λ y i.
        let from = pair_from order pairs y i in
        let whole = good.whole in
        let l : y.var < n = omega (arith, from.0, whole) in
        ap (λ (o : Option ℤ). is_value o y.value) (same y.var l)
        ∙ list_all-In (λ (z : Pair). is_value (there z.var) z.value) (pair_of (place_of order y.var) y.value) pairs e from.1)

  -- the variable of a place, and no other, has the place's value
  same_test : (x k : ℕ) → x < n → k < n → (k == number_at order x) ≡ (place_of order k == x)
  same_test x k xl kl = elim (eqb_tells k (number_at order x)) [
    | inl t ↦ elim (eqb_tells (place_of order k) x) [
      | inl s ↦ t.0 ∙ sym s.0
      | inr s ↦ absurd (s.1 (ap (place_of order) t.1 ∙ place_back n order good x x xl))
    ]
    | inr t ↦ elim (eqb_tells (place_of order k) x) [
      | inl s ↦ absurd (t.1 (sym (number_back n order good k (place_of order k) kl) ∙ ap (number_at order) s.1))
      | inr s ↦ t.0 ∙ sym s.0
    ]
  ]

  same_given : (x : ℕ) (v : ℤ) (pairs : Nogood) → x < n → (k : ℕ) → k < n
      → given_with (number_at order x) v (pairs_renumbered order pairs) k ≡ given_with x v pairs (place_of order k)
  same_given x v pairs xl k kl =
      ap (λ (b : Bool). cond b (Some v) (value_at (pairs_renumbered order pairs) k)) (same_test x k xl kl)
      ∙ ap (λ (o : Option ℤ). cond (place_of order k == x) (Some v) o) (given_renumbered order pairs k (in_order k kl))

  renumbered_there : (earlier : List Step) (number : ℕ) (s : Step) → step_at earlier number ≡ Some s → step_at (map (step_renumbered order) earlier) number ≡ Some (step_renumbered order s)
  renumbered_there earlier zero s e = cc
  renumbered_there earlier (suc number) s e = get_map (step_renumbered order) earlier number s e

  reason_stays : (earlier : List Step) (pairs : Nogood) (x : ℕ) → x < n → (v : ℤ) (r : Reason) → IsReason (csp_of (under order p)) earlier pairs x v r
      → IsReason (csp_of p) (map (step_renumbered order) earlier) (pairs_renumbered order pairs) (number_at order x) v r
  reason_stays earlier pairs x xl v (By_rule number) h =
      let q = pairing number h.0 h.1 in (
        constraint_of n q.rule,
        q.there,
        stays_violated (given_with (number_at order x) v (pairs_renumbered order pairs)) (given_with x v pairs) (same_given x v pairs xl) number h.0 q h.2,
      )
  reason_stays earlier pairs x xl v (Earlier number) h = (
    step_renumbered order h.0,
    renumbered_there earlier number h.0 h.1,
    still_agrees (given_with (number_at order x) v (pairs_renumbered order pairs)) (given_with x v pairs) (same_given x v pairs xl) h.0.nogood h.2,
  )

  right_at : (earlier : List Step) (x : ℕ) (step : Step) → IsRightAt (csp_of (under order p)) earlier x step
      → IsRightAt (csp_of p) (map (step_renumbered order) earlier) (number_at order x) (step_renumbered order step)
  right_at earlier x step r =
      let same = same_count p ok order good in
      let variable = r.variable in
      let xl : x < n = omega (arith, same, variable) in
      record {
        variable = low_number n order good x xl;
        rising = rising_renumbered order step.nogood;
        pairs = λ y i.
            let from = pair_from order step.nogood y i in
            let whole = good.whole in
            let l : y.var < n = omega (arith, from.0, whole) in
            let known = r.pairs (pair_of (place_of order y.var) y.value) from.1 in
            record { variable = l; value = subst (λ (d : List ℤ). In y.value d) (domain_of_place p ok order good y.var l) known.value };
        other =
            given_renumbered order step.nogood (number_at order x) (in_order (number_at order x) (low_number n order good x xl))
            ∙ ap (value_at step.nogood) (place_back n order good x x xl)
            ∙ r.other;
        reasons =
            subst (λ (d : List ℤ). AllZip (IsReason (csp_of p) (map (step_renumbered order) earlier) (pairs_renumbered order step.nogood) (number_at order x)) d step.reasons)
            (domain_there p ok order good x xl)
            (all_zip _ _ (λ v r. reason_stays earlier step.nogood x xl v r) (domain (csp_of (under order p)) x) step.reasons r.reasons);
      }

  right_nowhere : (step : Step) → IsRightNowhere (csp_of (under order p)) step → IsRightNowhere (csp_of p) (step_renumbered order step)
  right_nowhere step r =
      let alone = r.alone in
      let q = pairing r.number alone.constraint alone.there in
      let empty : scope_of m (rule_under order q.rule) ≡ [] = ap (λ (c : Constraint). c.scope) q.is ∙ alone.scope in
      record {
        nogood = ap (pairs_renumbered order) r.nogood ∙ none_renumbered order;
        number = r.number;
        reasons = r.reasons;
        alone = record {
          constraint = constraint_of n q.rule;
          there = q.there;
          scope = no_members (scope_of n q.rule) (λ k i.
              subst (λ (ks : List ℕ). In (place_of order k) ks) empty (scope_goes n m order q.rule k i (low k (scope_low q.rule k i))));
          violated =
              sym (same_truth order (λ k. pos 0) q.rule)
              ∙ ap (λ (c : Constraint). c.test (λ k. pos 0)) q.is
              ∙ alone.violated;
        };
      }

  right : (earlier : List Step) (step : Step) → IsRight (csp_of (under order p)) earlier step → IsRight (csp_of p) (map (step_renumbered order) earlier) (step_renumbered order step)
  right earlier step h = at step.variable refl h
    where
      At : Option ℕ → Type 0
      At o = MatchOption o (IsRightNowhere (csp_of p) (step_renumbered order step)) (λ x. IsRightAt (csp_of p) (map (step_renumbered order) earlier) x (step_renumbered order step))

      at : (o : Option ℕ) → step.variable ≡ o → MatchOption o (IsRightNowhere (csp_of (under order p)) step) (λ x. IsRightAt (csp_of (under order p)) earlier x step) → At (option_map (number_at order) step.variable)
      at (Some x) e r = subst At (sym (ap (option_map (number_at order)) e)) (right_at earlier x step r)
      at None e r = subst At (sym (ap (option_map (number_at order)) e)) (right_nowhere step r)

pub derivations_come : DerivationsCome
derivations_come p ok order good steps h k step e =
    let from = map_get (step_renumbered order) steps k step e in
    let here = right p ok order good (take k steps) from.0 (h k from.0 from.1) in
    let earlier : map (step_renumbered order) (take k steps) ≡ take k (map (step_renumbered order) steps) = sym (take-map (step_renumbered order) k steps) in
    subst (λ (z : List Step). IsRight (csp_of p) z step) earlier
    (subst (λ (z : Step). IsRight (csp_of p) (map (step_renumbered order) (take k steps)) z) from.2 here)

ends_empty : (order : List ℕ) (steps : List Step) → EndsEmpty steps → EndsEmpty (map (step_renumbered order) steps)
ends_empty order steps h = at (slice_get steps (length steps - 1)) refl h
  where
    Ends : Option Step → Type 0
    Ends o = IsSomeAnd o (λ (step : Step). step.nogood ≡ [])

    at : (o : Option Step) → slice_get steps (length steps - 1) ≡ o → Ends o → EndsEmpty (map (step_renumbered order) steps)
    at None e r = absurd r
    at (Some s) e r =
        let last : slice_get (map (step_renumbered order) steps) (length (map (step_renumbered order) steps) - 1) ≡ Some (step_renumbered order s) =
        ap (λ z. slice_get (map (step_renumbered order) steps) (z - 1)) (length-map steps (step_renumbered order))
        ∙ get_map (step_renumbered order) steps (length steps - 1) s e
        in
        subst Ends (sym last) (ap (pairs_renumbered order) r ∙ none_renumbered order)

pub refutations_come : RefutationsCome
refutations_come p ok order good steps h = record {
  right = derivations_come p ok order good steps h.right;
  ends = ends_empty order steps h.ends;
}
