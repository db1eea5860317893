-- Rules that rule out one run of values, or all values outside one, whatever is known.
use Rattle.std.specs.Prelude.{ℕ, ◌==◌, ◌&&◌, ℤ, Bool, true, false, not, List, [], ◌∷◌, Option, Some, None, if◌then◌else◌, length, nat_lt}
use Rattle.dcsp_rule.specs.declared.rule.Term.{Term}
use Rattle.dcsp_rule.specs.declared.rule.Term.TheVariants.{Const, Var}
use Rattle.dcsp_rule.specs.declared.rule.Rule.{Rule}
use Rattle.dcsp_rule.specs.declared.rule.Rule.TheVariants.{Plain, Sum}
use Rattle.dcsp_rule.specs.Pairs.{is_comparison}

-- whether the rule is no sum
abbrev pub is_plain : Rule → Bool
is_plain (Plain kind scalars first second members) = true
is_plain (Sum rel coefs terms total truth) = false

-- whether the term is the variable
abbrev pub is_variable : ℕ → Term → Bool
is_variable var (Const value) = false
is_variable var (Var other) = other == var

-- whether it is the variable whose value tells the truth of a sum
abbrev pub is_truth : ℕ → Option Term → Bool
is_truth var None = false
is_truth var (Some term) = is_variable var term

-- the coefficients of the variable among the terms of a sum
abbrev pub own_coefs : ℕ → List ℤ → List Term → List ℤ
own_coefs var [] terms = []
own_coefs var (coef ∷ coefs) [] = []
own_coefs var (coef ∷ coefs) (term ∷ terms) = if is_variable var term then coef ∷ own_coefs var coefs terms else own_coefs var coefs terms

-- whether there is one of these at most
abbrev pub is_once : List ℤ → Bool
is_once coefs = nat_lt (length coefs) 2

-- whether the rule compares two numbers, or is a sum in which the variable is one term at most, and whose total and truth are not told by the variable
abbrev pub has_span : ℕ → Rule → Bool
has_span var (Plain kind scalars first second members) = is_comparison kind
has_span var (Sum rel coefs terms total truth) = is_once (own_coefs var coefs terms) && (not (is_variable var total) && not (is_truth var truth))
