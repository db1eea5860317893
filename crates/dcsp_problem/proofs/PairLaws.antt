-- A rule over one or two variables is missed exactly where it is violated.
use Rattle.std.proofs.Common.{◌≡◌, ℕ, ◌==◌, Bool, true, false, not, ◌&&◌, refl, sym, ap, ◌∙◌, inl, inr}
use Rattle.std.specs.Prelude.{is_some, IfSome, Option, Some, None}
use Rattle.std.specs.List.{list_all}
use Rattle.std.proofs.lemmas.Bool.{eqb-true, eq-eqb, or_cases, both_ways, false_from_ne_true, or_left, or_right}
use Rattle.dcsp_defs.specs.Words.{In}
use Rattle.dcsp_defs.specs.Csp.{PartialAssignment, filled, is_violated}
use Rattle.dcsp_defs.proofs.Lists.{list_all-In, In-list_all}
use Rattle.dcsp_rule.specs.declared.pair.BinaryRule.{BinaryRule}
use Rattle.dcsp_rule.specs.declared.rule.Rule.{Rule}
use Rattle.dcsp_rule.specs.Rules.{scope_of, mentions, IsRuleOf}
use Rattle.dcsp_rule.specs.Pairs.{is_missed, is_of_pair, pair_truth, IsPairOf, IsSmall}
use Rattle.dcsp_rule.specs.Problems.{constraint_of}
use Rattle.dcsp_problem.proofs.RisingNumbers.{In-filter_below}
use Rattle.dcsp_problem.proofs.Scopes.{In-scope, from_mentioned}

module _ (n : ℕ) (rule : Rule) (pair : BinaryRule) (ok : IsRuleOf n rule) (is : IsPairOf pair rule) where
  in_scope : (var : ℕ) → is_of_pair pair var ≡ true → In var (scope_of n rule)
  in_scope var h = In-scope n rule ok var (from_mentioned rule var (sym (is.variables var) ∙ h))

  first_there : In pair.first (scope_of n rule)
  first_there = in_scope pair.first (or_left (pair.first == pair.first) (pair.second == pair.first) (eq-eqb pair.first pair.first refl))

  second_there : In pair.second (scope_of n rule)
  second_there = in_scope pair.second (or_right (pair.first == pair.second) (pair.second == pair.second) (eq-eqb pair.second pair.second refl))

  -- each variable of the scope is one of the two
  tested : (test : ℕ → Bool) → test pair.first ≡ true → test pair.second ≡ true → (var : ℕ) → In var (scope_of n rule) → test var ≡ true
  tested test first second var i = elim (or_cases (pair.first == var) (pair.second == var) (is.variables var ∙ (In-filter_below (mentions rule) n var i).1)) [
    | inl e ↦ ap test (sym (eqb-true pair.first var e)) ∙ first
    | inr e ↦ ap test (sym (eqb-true pair.second var e)) ∙ second
  ]

  both_or_not : (test : ℕ → Bool) (a b : Bool) → test pair.first ≡ a → test pair.second ≡ b → list_all test (scope_of n rule) ≡ (a && b)
  both_or_not test true true e f = In-list_all test (scope_of n rule) (tested test e f)
  both_or_not test true false e f = false_from_ne_true (list_all test (scope_of n rule)) (λ all. both_ways (test pair.second) f (list_all-In test pair.second (scope_of n rule) all second_there))
  both_or_not test false b e f = false_from_ne_true (list_all test (scope_of n rule)) (λ all. both_ways (test pair.first) e (list_all-In test pair.first (scope_of n rule) all first_there))

  -- the scope's test is that of the two
  pub all_of_two : (test : ℕ → Bool) → list_all test (scope_of n rule) ≡ (test pair.first && test pair.second)
  all_of_two test = both_or_not test (test pair.first) (test pair.second) refl refl

  pub missed_is : (known : PartialAssignment) → is_missed pair known ≡ is_violated known (constraint_of n rule)
  missed_is known =
      ap (λ b. b && not (pair_truth pair (filled known))) (sym (all_of_two (λ k. is_some (known k))))
      ∙ ap (λ t. list_all (λ k. is_some (known k)) (scope_of n rule) && not t) (is.truth (filled known))

pub small_pair : (pair : Option BinaryRule) (rule : Rule) → IfSome pair (λ p. IsPairOf p rule) → IfSome pair IsSmall
small_pair None rule h = h
small_pair (Some pair) rule h = h.small
