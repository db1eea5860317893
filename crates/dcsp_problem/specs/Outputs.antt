-- What is told of a solution.
use Rattle.std.specs.Prelude.{◌≡◌, ℕ, ◌*◌, ◌≤◌, ℤ, List, [], ◌∷◌, length, All}
use Rattle.dcsp_domain.specs.Ranges.{count_between}
use Rattle.dcsp_rule.specs.declared.output.Output.{Output}
use Rattle.dcsp_rule.specs.declared.output.Shape.{Shape}
use Rattle.dcsp_rule.specs.declared.output.Shape.TheVariants.{One, Ranges}
use Rattle.dcsp_common.specs.declared.limits.Which.TheVariants.{Elements}
use Rattle.dcsp_rule.specs.Rules.{IsTermOf}
use Rattle.dcsp_common.specs.Limits.{most}

-- the product of the ranges' sizes
abbrev pub range_product : List (ℤ × ℤ) → ℕ
range_product [] = 1
range_product (range ∷ ranges) = count_between range.0 range.1 * range_product ranges

-- the ranges of an array with so many elements
pub record AreRangesOf (count : ℕ) (ranges : List (ℤ × ℤ)) : Type 0 where
  pub some : 1 ≤ length ranges
  pub few : length ranges ≤ 6
  pub product : range_product ranges ≡ count

-- a shape of so many terms: of one alone, or of an array
abbrev pub IsShapeOf : ℕ → Shape → Type 0
IsShapeOf count One = count ≡ 1
IsShapeOf count (Ranges ranges) = AreRangesOf count ranges

-- an output over so many variables
pub record IsOutputOf (variables : ℕ) (output : Output) : Type 0 where
  pub known : All (IsTermOf variables) output.terms
  pub few : length output.terms ≤ most Elements
  pub shape : IsShapeOf (length output.terms) output.shape
