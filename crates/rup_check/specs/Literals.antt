-- Literals as numbers: N is variable N, and -N its negation.
use Rattle.std.specs.Prelude.{ℕ, ◌<◌, ◌≤◌, zero, suc, ℤ, pos, negsuc, unsigned_abs, Bool, false, not, List}
use Rattle.rup_check.specs.Propagation.{SatisfiesAll}

-- a literal's variable is from 1 to 4,096
pub record IsLiteral (literal : ℤ) : Type 0 where
  pub positive : 0 < unsigned_abs literal
  pub bounded : unsigned_abs literal ≤ 4096

-- whether the literal is true, where the variables have these truths
abbrev pub is_true : (ℕ → Bool) → ℤ → Bool
is_true truth (pos zero) = false
is_true truth (pos (suc n)) = truth (suc n)
is_true truth (negsuc n) = not (truth (suc n))

-- no assignment satisfies the formula
abbrev pub IsUnsatisfiable : List (List ℤ) → Type 0
IsUnsatisfiable formula = (truth : ℕ → Bool) → SatisfiesAll (is_true truth) formula → ⊥
