-- How wide a rule's sum may become over the domains of its variables.
use Rattle.std.specs.Prelude.{ℕ, max, ℤ, List, [], ◌∷◌, map, slice_index_or, unsigned_abs}
use Rattle.dcsp_meaning.specs.Sums.{width_of, sizes_of}
use Rattle.dcsp_defs.specs.Csp.{Assignment}
use Rattle.dcsp_rule.specs.declared.rule.Term.{Term}
use Rattle.dcsp_rule.specs.declared.rule.Term.TheVariants.{Const, Var}
use Rattle.dcsp_rule.specs.declared.rule.Rule.{Rule}
use Rattle.dcsp_rule.specs.declared.rule.Rule.TheVariants.{Plain, Sum}
use Rattle.dcsp_rule.specs.Rules.{value_under, weighted_values}

-- the greatest absolute value among these; 0 where there is none
abbrev pub greatest_among : List ℤ → ℕ
greatest_among [] = 0
greatest_among (value ∷ values) = max (unsigned_abs value) (greatest_among values)

-- the greatest absolute value of a term, where the variables have these domains
abbrev pub greatest_of : List (List ℤ) → Term → ℕ
greatest_of domains (Const value) = unsigned_abs value
greatest_of domains (Var var) = greatest_among (slice_index_or domains var [])

-- the width of a rule's sum over these domains; 0 where it has no sum
abbrev pub rule_width : List (List ℤ) → Rule → ℕ
rule_width domains (Plain kind scalars first second members) = 0
rule_width domains (Sum rel coefs terms total told) = width_of coefs (map (greatest_of domains) terms) (greatest_of domains total)

-- the absolute values of the products and of the total, added up, where the variables have these values; 0 where there is no sum
abbrev pub rule_sizes : Rule → Assignment → ℕ
rule_sizes (Plain kind scalars first second members) values = 0
rule_sizes (Sum rel coefs terms total told) values = sizes_of (weighted_values values coefs terms) (value_under values total)
