-- Nogoods and rules as clauses. The variable with number x, counted from 0, is the literal x + 1.
use Rattle.std.specs.Prelude.{◌≡◌, ◌⊎◌, ℕ, ◌+◌, ◌<◌, suc, zero, ℤ, pos, negsuc, List, [], ◌++◌, map, take, All}
use Rattle.dcsp_common.specs.Limits.{most}
use Rattle.dcsp_common.specs.declared.limits.Which.TheVariants.{Variables}
use Rattle.dcsp_defs.specs.declared.nogood.Pair.{Pair}
use Rattle.dcsp_meaning.specs.declared.kinds.ConstraintKind.TheVariants.{BoolClause}
use Rattle.dcsp_rule.specs.declared.rule.Term.{Term}
use Rattle.dcsp_rule.specs.declared.rule.Term.TheVariants.{Const, Var}
use Rattle.dcsp_rule.specs.declared.rule.Rule.{Rule}
use Rattle.dcsp_rule.specs.declared.rule.Rule.TheVariants.{Plain, Sum}

-- what a variable is where it does not have this value of 0 and 1
abbrev pub literal_against : ℕ → ℤ → ℤ
literal_against x (pos zero) = pos (x + 1)
literal_against x (pos (suc n)) = negsuc x
literal_against x (negsuc n) = negsuc x

-- the clause that a nogood says: one of its pairs does not hold
abbrev pub clause_of : List Pair → List ℤ
clause_of nogood = map (λ (y : Pair). literal_against y.var y.value) nogood

-- a pair of a variable below 4,096 and 0 or 1
pub record IsBinary (y : Pair) : Type 0 where
  pub variable : y.var < most Variables
  pub value : (y.value ≡ pos 0) ⊎ (y.value ≡ pos 1)

-- the literal that a term is
abbrev pub literal_of : Term → ℤ
literal_of (Var x) = pos (x + 1)
literal_of (Const value) = pos 0

-- its negation
abbrev pub negation_of : Term → ℤ
negation_of (Var x) = negsuc x
negation_of (Const value) = pos 0

-- the term is a variable
abbrev pub IsVariable : Term → Type 0
IsVariable (Var x) = Unit {0}
IsVariable (Const value) = ⊥

-- the rule is `bool_clause` over variables
abbrev pub IsClauseRule : Rule → Type 0
IsClauseRule (Plain kind scalars first second members) = (kind ≡ BoolClause) × All IsVariable first × All IsVariable second
IsClauseRule (Sum rel coefs terms total told) = ⊥

-- its clause: the positive literals, and then the negated ones
abbrev pub rule_clause : Rule → List ℤ
rule_clause (Plain kind scalars first second members) = map literal_of first ++ map negation_of second
rule_clause (Sum rel coefs terms total told) = []

-- the first of these were added
abbrev pub AddsSome : List (List ℤ) → List (List ℤ) → List (List ℤ) → Type 0
AddsSome clauses before after = (n : ℕ) × (after ≡ before ++ take n clauses)
