-- Rules over one or two variables, made ready to be tested.
use Rattle.std.specs.Prelude.{◌≡◌, ℕ, suc, ◌<◌, ◌≤◌, ◌^◌, ◌==◌, ℤ, pos, ◌+ℤ◌, ◌*ℤ◌, Bool, true, false, not, ◌&&◌, ◌||◌, List, [], IsTrue, is_some, sum_by, unsigned_abs}
use Rattle.std.specs.List.{list_all, list_any}
use Rattle.dcsp_meaning.specs.declared.kinds.ConstraintKind.{ConstraintKind}
use Rattle.dcsp_meaning.specs.declared.kinds.ConstraintKind.TheVariants.{IntEq, IntNe, IntLe, IntLt}
use Rattle.dcsp_meaning.specs.Sums.{stands}
use Rattle.dcsp_defs.specs.Csp.{Assignment, PartialAssignment, filled}
use Rattle.dcsp_rule.specs.declared.pair.BinaryRule.{BinaryRule}
use Rattle.dcsp_rule.specs.declared.pair.NarrowPair.{NarrowPair}
use Rattle.dcsp_rule.specs.declared.rule.Term.{Term}
use Rattle.dcsp_rule.specs.declared.rule.Term.TheVariants.{Const, Var}
use Rattle.dcsp_rule.specs.declared.rule.Rule.{Rule}
use Rattle.dcsp_rule.specs.declared.rule.Rule.TheVariants.{Plain, Sum}
use Rattle.dcsp_rule.specs.Rules.{variable_of, mentions, rule_truth, terms_of}
use Rattle.dcsp_rule.specs.Widths.{rule_sizes}

-- the products of a pair's coefficients and two values, added up
abbrev pub pair_sum : BinaryRule → ℤ → ℤ → ℤ
pair_sum pair x y = (pair.first_coef *ℤ x) +ℤ (pair.second_coef *ℤ y)

-- the pair that stands in less room
abbrev pub widened : NarrowPair → BinaryRule
widened pair = record { rel = pair.rel; first = pair.first; second = pair.second; first_coef = pair.first_coef; second_coef = pair.second_coef; total = pair.total }

-- whether the pair is true where the variables have these values
abbrev pub pair_truth : BinaryRule → Assignment → Bool
pair_truth pair values = stands pair.rel (pair_sum pair (values pair.first) (values pair.second)) pair.total

-- whether the variable is one of the pair's
abbrev pub is_of_pair : BinaryRule → ℕ → Bool
is_of_pair pair var = (pair.first == var) || (pair.second == var)

-- whether both variables are known, and the pair is false under what is known
abbrev pub is_missed : BinaryRule → PartialAssignment → Bool
is_missed pair known = (is_some (known pair.first) && is_some (known pair.second)) && not (pair_truth pair (filled known))

-- its numbers are so small that 128 bits hold the sum for any values of 64 bits, and what the total is above it
pub record IsSmall (pair : BinaryRule) : Type 0 where
  pub first : unsigned_abs pair.first_coef < 2 ^ 62
  pub second : unsigned_abs pair.second_coef < 2 ^ 62
  pub total : unsigned_abs pair.total ≤ 2 ^ 65

-- the pair is all that the rule says: it is true under the same assignments, and has the same variables; and its numbers are small
pub record IsPairOf (pair : BinaryRule) (rule : Rule) : Type 0 where
  pub truth : (values : Assignment) → pair_truth pair values ≡ rule_truth rule values
  pub variables : (var : ℕ) → is_of_pair pair var ≡ mentions rule var
  pub small : IsSmall pair

-- the coefficients of a sum; another rule has none
abbrev pub coefs_of : Rule → List ℤ
coefs_of (Plain kind scalars first second members) = []
coefs_of (Sum rel coefs terms total told) = coefs

-- whether the rule is a sum whose truth nothing tells
abbrev pub is_untold : Rule → Bool
is_untold (Plain kind scalars first second members) = false
is_untold (Sum rel coefs terms total told) = not (is_some told)

-- whether the term is a constant, or one of these two variables
abbrev pub is_over : ℕ → ℕ → Term → Bool
is_over v w (Const value) = true
is_over v w (Var var) = (var == v) || (var == w)

-- a sum that nothing tells, over one variable or over these two, whose coefficients and constants stay small where their absolute values are added up
pub record IsSmallSum (v w : ℕ) (rule : Rule) : Type 0 where
  pub untold : IsTrue (is_untold rule)
  pub mentioned : IsTrue (mentions rule v)
  pub over : IsTrue (list_all (is_over v w) (terms_of rule))
  pub coefs : suc (sum_by unsigned_abs (coefs_of rule)) < 2 ^ 62
  pub constants : rule_sizes rule (λ var. pos 0) ≤ 2 ^ 65

-- whether a constraint compares two numbers
abbrev pub is_comparison : ConstraintKind → Bool
is_comparison IntEq = true
is_comparison IntNe = true
is_comparison IntLe = true
is_comparison IntLt = true
is_comparison other = false

-- whether the rule compares two numbers of which at least one is a variable
abbrev pub compares_variable : Rule → Bool
compares_variable (Plain kind scalars first second members) = is_comparison kind && list_any (λ term. is_some (variable_of term)) scalars
compares_variable (Sum rel coefs terms total told) = false
