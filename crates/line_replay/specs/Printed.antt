-- What the text of a solution tells of the values that it prints.
use Rattle.std.specs.Prelude.{◌≡◌, ◌↔◌, ℕ, ℤ, Bool, true, false, FitsSigned}
use Rattle.std.specs.Int.{w64}
use Rattle.std.specs.List.{AllByRecursion}
use Rattle.dcsp_meaning.specs.Words.{is_one}
use Rattle.dcsp_rule.specs.declared.output.Output.{Output}
use Rattle.dcsp_rule.specs.Rules.{value_under}
use Rattle.dcsp_rule.specs.Problems.{Contents}
use Rattle.line_replay.specs.Solutions.{solution_text}

-- two values are alike in print: equal numbers, or of a Boolean equal truths
abbrev pub AreAlike : Bool → ℤ → ℤ → Type 0
AreAlike true v w = is_one v ≡ is_one w
AreAlike false v w = v ≡ w

-- each element of the output has 64 bits
abbrev pub FitsOutput : (ℕ → ℤ) → Output → Type 0
FitsOutput values output = AllByRecursion (λ term. FitsSigned w64 (value_under values term)) output.terms

-- each element of the output has the same value, or truth, under both
abbrev pub IsSameOutput : (ℕ → ℤ) → (ℕ → ℤ) → Output → Type 0
IsSameOutput values others output = AllByRecursion (λ term. AreAlike output.boolean (value_under values term) (value_under others term)) output.terms

-- what the problem prints has 64 bits
abbrev pub FitPrinted : Contents → (ℕ → ℤ) → Type 0
FitPrinted p values = AllByRecursion (FitsOutput values) p.outputs

-- all that the problem prints is the same under both
abbrev pub IsSamePrinted : Contents → (ℕ → ℤ) → (ℕ → ℤ) → Type 0
IsSamePrinted p values others = AllByRecursion (IsSameOutput values others) p.outputs

-- two solution texts of a problem are equal exactly where each output, by its place, has the same values
abbrev pub TextTellsValues : Contents → Type 0
TextTellsValues p = (values others : ℕ → ℤ) → FitPrinted p values → FitPrinted p others → (solution_text p values ≡ solution_text p others) ↔ IsSamePrinted p values others
