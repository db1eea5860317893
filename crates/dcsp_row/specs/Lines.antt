-- Sums in which one variable is left open.
use Rattle.std.specs.Prelude.{◌≡◌, ℕ, ◌+◌, ◌*◌, ◌≤◌, ℤ, pos, ◌+ℤ◌, ◌*ℤ◌, Bool, true, false, not, List, [], ◌∷◌, Option, Some, None, ◌&&◌, is_some, sum_by, unsigned_abs, unwrap_or}
use Rattle.dcsp_defs.specs.Csp.{PartialAssignment, filled, with_value}
use Rattle.dcsp_meaning.specs.Sums.{size_of, stands, sum_of}
use Rattle.dcsp_rule.specs.declared.pair.BinaryRule.{BinaryRule}
use Rattle.dcsp_rule.specs.declared.rule.Term.{Term}
use Rattle.dcsp_rule.specs.Pairs.{pair_sum}
use Rattle.dcsp_rule.specs.Rules.{is_told, weighted_values}
use Rattle.dcsp_row.specs.declared.known.ValueOrOpen.{ValueOrOpen}
use Rattle.dcsp_row.specs.declared.known.ValueOrOpen.TheVariants.{Open, Value}
use Rattle.dcsp_row.specs.declared.line.LinearSum.{LinearSum}
use Rattle.dcsp_row.specs.declared.sums.OpenSum.{OpenSum}
use Rattle.dcsp_row.specs.declared.sums.SumTruth.{SumTruth}
use Rattle.dcsp_row.specs.declared.sums.SumTruth.TheVariants.{HasToHold, By, ByOpen}

-- the value, or that of the open variable, where the open variable has this one
abbrev pub value_or_open_at : ValueOrOpen → ℤ → ℤ
value_or_open_at Open x = x
value_or_open_at (Value value) x = value

-- the product with the open variable's coefficient, if it has one
abbrev pub own_part : Option ℤ → ℤ → ℤ
own_part None x = pos 0
own_part (Some coef) x = coef *ℤ x

abbrev pub own_size : Option ℤ → ℤ → ℕ
own_size None x = 0
own_size (Some coef) x = unsigned_abs coef * unsigned_abs x

-- the sum where the open variable has this value
abbrev pub line_at : LinearSum → ℤ → ℤ
line_at line x = line.base +ℤ own_part line.own x

-- the absolute values of both parts
abbrev pub line_size : LinearSum → ℤ → ℕ
line_size line x = unsigned_abs line.base + own_size line.own x

-- one term was added: its coefficient, and its value unless it is the open variable
pub record AddsTerm (line next : LinearSum) (coef : ℤ) (value : Option ℤ) (x : ℤ) : Type 0 where
  pub sum : line_at next x ≡ line_at line x +ℤ (coef *ℤ unwrap_or value x)
  pub size : line_size next x ≤ line_size line x + unsigned_abs coef * unsigned_abs (unwrap_or value x)

-- the value that tells the truth of a sum, if one does
abbrev pub told_at : SumTruth → ℤ → Option ℤ
told_at HasToHold x = None
told_at (By value) x = Some value
told_at ByOpen x = Some x

-- whether it is told by something else than the open variable, or by nothing
abbrev pub is_known : SumTruth → Bool
is_known HasToHold = true
is_known (By value) = true
is_known ByOpen = false

-- the coefficient of a term that is the open variable, which has no value
abbrev pub open_coef : ℤ → Option ℤ → List ℤ
open_coef coef None = coef ∷ []
open_coef coef (Some value) = []

-- the sum of each coefficient times its term, and the size of that, where the open variable has a value beside those that are known
abbrev pub sum_with : ℕ → PartialAssignment → List ℤ → List Term → ℤ → ℤ
sum_with var known coefs terms x = sum_of (weighted_values (filled (with_value var x known)) coefs terms)

abbrev pub size_with : ℕ → PartialAssignment → List ℤ → List Term → ℤ → ℕ
size_with var known coefs terms x = sum_by size_of (weighted_values (filled (with_value var x known)) coefs terms)

-- whether both variables of a pair have a value, and the sum of its products under these values
abbrev pub knows_both : BinaryRule → PartialAssignment → Bool
knows_both pair values = is_some (values pair.first) && is_some (values pair.second)

abbrev pub pair_sum_under : BinaryRule → PartialAssignment → ℤ
pair_sum_under pair values = pair_sum pair (filled values pair.first) (filled values pair.second)

-- whether a sum with an open variable is true where that has this value: it stands so to the total, or is told not to
abbrev pub is_on : OpenSum → ℤ → Bool
is_on opened value = is_told (told_at opened.told value) (stands opened.rel (line_at opened.line value) (unwrap_or opened.total value))

-- whether it is false there
abbrev pub is_off : OpenSum → ℤ → Bool
is_off opened value = not (is_on opened value)

-- whether there is one, and the open variable tells neither total nor truth
abbrev pub is_line : Option OpenSum → Bool
is_line None = false
is_line (Some opened) = is_some opened.total && is_known opened.told
