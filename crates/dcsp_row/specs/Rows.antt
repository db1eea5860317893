-- Which values of a variable a rule rules out.
use Rattle.std.specs.Prelude.{◌≡◌, ℕ, ◌<◌, ℤ, pos, Bool, false, not, List, length, slice_index_or, ◌≤◌}
use Rattle.dcsp_defs.specs.Csp.{PartialAssignment, domain, filled, is_violated, with_value}
use Rattle.dcsp_rule.specs.declared.rule.Rule.{Rule}
use Rattle.dcsp_rule.specs.Rules.{rule_truth}
use Rattle.dcsp_rule.specs.Problems.{Contents, csp_of, constraint_at}

-- the value at a place
abbrev pub own_at : List ℤ → ℕ → ℤ
own_at values place = slice_index_or values place (pos 0)

-- among the first so many of these values the row marks those that pass the test
abbrev pub MarksBelow : (ℤ → Bool) → List ℤ → ℕ → List Bool → Type 0
MarksBelow test values count row = (length row ≡ length values) × ((place : ℕ) → place < count → slice_index_or row place false ≡ test (own_at values place))

-- the row marks exactly those of these values that pass the test
abbrev pub MarksWhere : (ℤ → Bool) → List ℤ → List Bool → Type 0
MarksWhere test values row = MarksBelow test values (length values) row

-- whether a rule is violated under what is known and this value of the variable
abbrev pub is_ruled_out : Contents → ℕ → ℕ → PartialAssignment → ℤ → Bool
is_ruled_out p rule var known value = is_violated (with_value var value known) (constraint_at p rule)

-- the row marks the values of the variable at which the rule is violated under what is known
abbrev pub IsRow : Contents → ℕ → ℕ → PartialAssignment → List Bool → Type 0
IsRow p rule var known row = MarksWhere (is_ruled_out p rule var known) (domain (csp_of p) var) row

-- whether a rule is false at this value of the variable, where what is open counts as 0
abbrev pub is_false : Rule → ℕ → PartialAssignment → ℤ → Bool
is_false rule var known value = not (rule_truth rule (filled (with_value var value known)))

-- the row marks those of these values of the variable at which the rule is false
abbrev pub TellsFalse : Rule → ℕ → List ℤ → PartialAssignment → List Bool → Type 0
TellsFalse rule var values known row = MarksWhere (is_false rule var known) values row

-- each of these values of the variable lets the sums that a rule makes fit
abbrev pub FitAtEach : (ℤ → ℕ) → ℕ → List ℤ → Type 0
FitAtEach size most values = (place : ℕ) → place < length values → size (own_at values place) ≤ most
