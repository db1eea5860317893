-- What is told of a run in own numbers stands in a log.
use Rattle.std.proofs.Common.{◌≡◌, ℕ, ◌≤◌, List, [], ◌∷◌, ◌++◌, map, length, Option, Some, None, refl, ap, ◌∙◌, inl, inr, arith}
use native.Mathlib.Decide.{dec_lt}
use Rattle.std.specs.Prelude.{IfSome, IfNone}
use Rattle.std.specs.List.{AllByRecursion}
use Rattle.std.specs.Option.{option_map}
use Rattle.std.proofs.lemmas.List.{get_or_past, length-map}
use Rattle.std.proofs.lemmas.List.{map-append}
use Rattle.dcsp_defs.specs.declared.nogood.Pair.{Pair}
use Rattle.dcsp_defs.specs.declared.Step.{Step}
use Rattle.dcsp_defs.specs.Words.{In}
use Rattle.ngd_log.specs.StepText.{IsInRange, IsRuleAlone, IsVariable}
use Rattle.dcsp_common.specs.declared.limits.Which.TheVariants.{Variables}
use Rattle.dcsp_common.specs.Limits.{most}
use Rattle.dcsp_order.specs.Orders.{number_at, IsOrder}
use Rattle.dcsp_order.specs.Renumbered.{pairs_renumbered, step_renumbered}
use Rattle.dcsp_rule.specs.Problems.{Contents}
use Rattle.dcsp_problem.specs.WellFormed.{IsProblem}
use Rattle.dcsp_order.specs.Told.{ordered, steps_told, IsOrderFor}
use Rattle.dcsp_order.proofs.Stays.{still_problem}
use Rattle.dcsp_order.proofs.Pairs.{pair_from, none_renumbered}
use Rattle.dcsp_order.proofs.Places.{low_number}

-- what holds of each item holds of all
all_each : {X : Type 0} (P : X → Type 0) (xs : List X) → ((x : X) → In x xs → P x) → AllByRecursion P xs
all_each P [] each = tt
all_each P (x ∷ xs) each = (each x (inl refl), all_each P xs (λ y i. each y (inr i)))

-- and after a change of each
all_changed : {X Y : Type 0} (P : X → Type 0) (Q : Y → Type 0) (f : X → Y) → ((x : X) → P x → Q (f x)) → (xs : List X) → AllByRecursion P xs → AllByRecursion Q (map f xs)
all_changed P Q f each [] all = tt
all_changed P Q f each (x ∷ xs) all = (each x all.0, all_changed P Q f each xs all.1)

module _ (order : List ℕ) (good : IsOrder (length order) order) (few : length order ≤ most Variables) where
  number_in_range : (place : ℕ) → IsVariable place → IsVariable (number_at order place)
  number_in_range place l = elim (dec_lt place (length order)) [
    | yes b ↦ let low = low_number (length order) order good place b in omega (arith, low, few)
    | no n ↦ let past = get_or_past order place place (omega (arith, n)) in omega (arith, past, l)
  ]

  variable_in_range : (o : Option ℕ) → IfSome o IsVariable → IfSome (option_map (number_at order) o) IsVariable
  variable_in_range None h = tt
  variable_in_range (Some place) h = number_in_range place h

  nowhere_stays : (s : Step) (o : Option ℕ) → IfNone o (IsRuleAlone s) → IfNone (option_map (number_at order) o) (IsRuleAlone (step_renumbered order s))
  nowhere_stays s (Some place) h = tt
  nowhere_stays s None h = record { nogood = ap (pairs_renumbered order) h.nogood ∙ none_renumbered order; rule = h.rule; reasons = h.reasons }

  pub step_in_range : (s : Step) → IsInRange s → IsInRange (step_renumbered order s)
  step_in_range s h = record {
    variable = variable_in_range s.variable h.variable;
    nowhere = nowhere_stays s s.variable h.nowhere;
    pairs = all_each (λ (y : Pair). IsVariable y.var) (pairs_renumbered order s.nogood) (λ y i. let low = (pair_from order s.nogood y i).0 in omega (arith, low, few));
    reasons = h.reasons;
  }

-- ---- steps, one after the other

pub length-told : (order : Option (List ℕ)) (steps : List Step) → length (steps_told order steps) ≡ length steps
length-told None steps = refl
length-told (Some order) steps = length-map steps (step_renumbered order)

pub told-append : (order : Option (List ℕ)) (a b : List Step) → steps_told order (a ++ b) ≡ steps_told order a ++ steps_told order b
told-append None a b = refl
told-append (Some order) a b = map-append (step_renumbered order) a b

-- ---- the problem that is run

-- it is one within the limits
pub well_ordered : (order : Option (List ℕ)) (p : Contents) → IsProblem p → IsOrderFor order p → IsProblem (ordered order p)
well_ordered None p ok good = ok
well_ordered (Some order) p ok good = still_problem p ok order good
