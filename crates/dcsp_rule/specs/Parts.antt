-- How rules over one or two variables are made ready: coefficients of the same variable are added up, and so are constants.
use Rattle.std.specs.Prelude.{◌≡◌, ℕ, ◌+◌, ◌<◌, ◌≤◌, ◌^◌, ◌==◌, ℤ, pos, ◌+ℤ◌, ◌-ℤ◌, ◌*ℤ◌, Bool, true, false, ◌||◌, List, filter_map, sum_by, unsigned_abs, Option, Some, None, IfSome, IsSome, IsTrue, is_some}
use Rattle.std.specs.List.{list_all, list_any}
use Rattle.dcsp_meaning.specs.declared.linear.Rel.{Rel}
use Rattle.dcsp_meaning.specs.Sums.{size_of, stands, sum_of}
use Rattle.dcsp_defs.specs.Words.{is_number}
use Rattle.dcsp_defs.specs.Csp.{Assignment}
use Rattle.dcsp_rule.specs.declared.pair.BinaryRule.{BinaryRule}
use Rattle.dcsp_rule.specs.declared.parts.Part.{Part}
use Rattle.dcsp_rule.specs.declared.parts.Parts.{Parts}
use Rattle.dcsp_rule.specs.declared.parts.Comparison.{Comparison}
use Rattle.dcsp_rule.specs.declared.rule.Term.{Term}
use Rattle.dcsp_rule.specs.Rules.{variable_of, value_under, weighted_values}
use Rattle.dcsp_rule.specs.Pairs.{is_of_pair, is_over, pair_truth, IsSmall}

-- the product of a part, 0 where there is none
abbrev pub part_at : Option Part → Assignment → ℤ
part_at None values = pos 0
part_at (Some part) values = part.coef *ℤ values part.var

-- whether the variable is the part's
abbrev pub is_of_part : Option Part → ℕ → Bool
is_of_part None var = false
is_of_part (Some part) var = part.var == var

-- the parts added up
abbrev pub parts_at : Parts → Assignment → ℤ
parts_at parts values = (part_at parts.first values +ℤ part_at parts.second values) -ℤ parts.total

-- whether the variable is one of theirs
abbrev pub is_of_parts : Parts → ℕ → Bool
is_of_parts parts var = is_of_part parts.first var || is_of_part parts.second var

-- the coefficient times the variable was added to a part, which has no other variable
pub record AddsPart (part : Option Part) (coef : ℤ) (var : ℕ) (next : Part) : Type 0 where
  pub sum : (values : Assignment) → part_at (Some next) values ≡ part_at part values +ℤ (coef *ℤ values var)
  pub variables : (other : ℕ) → is_of_part (Some next) other ≡ (is_of_part part other || var == other)

-- the coefficient times the term was added to the parts
pub record AddsTerm (parts : Parts) (coef : ℤ) (term : Term) (next : Parts) : Type 0 where
  pub sum : (values : Assignment) → parts_at next values ≡ parts_at parts values +ℤ (coef *ℤ value_under values term)
  pub variables : (var : ℕ) → is_of_parts next var ≡ (is_of_parts parts var || is_number (variable_of term) var)

-- the parts are the terms of a sum with their coefficients
pub record AreOfSum (coefs : List ℤ) (terms : List Term) (parts : Parts) : Type 0 where
  pub sum : (values : Assignment) → parts_at parts values ≡ sum_of (weighted_values values coefs terms)
  pub variables : (var : ℕ) → is_of_parts parts var ≡ list_any (λ v. v == var) (filter_map variable_of terms)

-- the absolute value of a part's coefficient, 0 where there is none
abbrev pub part_size : Option Part → ℕ
part_size None = 0
part_size (Some part) = unsigned_abs part.coef

-- those of both parts, added up
abbrev pub coefs_size : Parts → ℕ
coefs_size parts = part_size parts.first + part_size parts.second

-- whether a part has this variable, or none yet
abbrev pub is_free_for : Option Part → ℕ → Bool
is_free_for None var = true
is_free_for (Some part) var = part.var == var

-- each variable counts as 0, so that the constants alone are left
abbrev pub at_zero : Assignment
at_zero var = pos 0

-- the parts are over these two variables, each of them one of the parts at most, and the first part is there first
pub record AreOver (v w : ℕ) (parts : Parts) : Type 0 where
  pub first : IfSome parts.first (λ part. IsTrue ((part.var == v) || (part.var == w)))
  pub second : IfSome parts.second (λ part. IsTrue ((part.var == v) || (part.var == w)) × (is_free_for parts.first part.var ≡ false))

-- numbers are added up to no more than this: coefficients, and constants with theirs
pub record AreWithin (most_coef most_constant : ℕ) (parts : Parts) : Type 0 where
  pub coefs : coefs_size parts ≤ most_coef
  pub constants : unsigned_abs parts.total ≤ most_constant

-- there are such parts, over these two variables
abbrev pub HasRoom : ℕ → ℕ → Option Parts → Type 0
HasRoom v w result = IsSome result × IfSome result (AreOver v w)

-- where the numbers stay small, and the term is over the same two variables, there is room for it
pub record StaysSmall (parts : Parts) (coef : ℤ) (term : Term) (result : Option Parts) : Type 0 where
  pub sizes : IfSome result (AreWithin (coefs_size parts + unsigned_abs coef) (unsigned_abs parts.total + size_of (coef, value_under at_zero term)))
  pub room : (v w : ℕ) → AreOver v w parts → IsTrue (is_over v w term) → coefs_size parts + unsigned_abs coef < 2 ^ 62 → unsigned_abs parts.total + size_of (coef, value_under at_zero term) ≤ 2 ^ 65 → HasRoom v w result

-- likewise of all terms of a sum
pub record StaySmall (coefs : List ℤ) (terms : List Term) (result : Option Parts) : Type 0 where
  pub sizes : IfSome result (AreWithin (sum_by unsigned_abs coefs) (sum_by size_of (weighted_values at_zero coefs terms)))
  pub room : (v w : ℕ) → IsTrue (list_all (is_over v w) terms) → sum_by unsigned_abs coefs < 2 ^ 62 → sum_by size_of (weighted_values at_zero coefs terms) ≤ 2 ^ 65 → HasRoom v w result

-- the pair says how the parts stand to 0
pub record IsPairFrom (rel : Rel) (parts : Parts) (pair : BinaryRule) : Type 0 where
  pub truth : (values : Assignment) → pair_truth pair values ≡ stands rel (parts_at parts values) (pos 0)
  pub variables : (var : ℕ) → is_of_pair pair var ≡ is_of_parts parts var
  pub small : IsSmall pair

-- the pair says how the difference of two terms compares
pub record IsPairOfTerms (compared : Comparison) (first second : Term) (pair : BinaryRule) : Type 0 where
  pub truth : (values : Assignment) → pair_truth pair values ≡ stands compared.rel (value_under values first -ℤ value_under values second) compared.total
  pub variables : (var : ℕ) → is_of_pair pair var ≡ (is_number (variable_of first) var || is_number (variable_of second) var)
  pub small : IsSmall pair

-- there is such a pair where one of the terms is a variable
abbrev pub ComparesTerms : Comparison → Term → Term → Option BinaryRule → Type 0
ComparesTerms compared first second pair = IfSome pair (IsPairOfTerms compared first second) × (is_some pair ≡ (is_some (variable_of first) || is_some (variable_of second)))
