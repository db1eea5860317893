-- Rules: their terms, their scope, and their truth.
use Rattle.std.specs.Prelude.{ℕ, ◌+◌, ◌<◌, ◌==◌, ℤ, Bool, List, [], ◌∷◌, ◌++◌, map, filter, zip, length, Option, Some, None, All, IsTrue}
use Rattle.std.specs.List.{list_any, filter_map}
use Rattle.std.specs.Option.{option_map, option_to_list}
use Rattle.dcsp_meaning.specs.Table.{is_shape, truth}
use Rattle.dcsp_meaning.specs.Words.{is_one, same}
use Rattle.dcsp_meaning.specs.declared.kinds.ConstraintKind.TheVariants.{IntEq}
use Rattle.dcsp_meaning.specs.Sums.{sum_of, stands}
use Rattle.dcsp_defs.specs.Words.{below}
use Rattle.dcsp_defs.specs.Csp.{Assignment}
use Rattle.dcsp_rule.specs.declared.rule.Term.{Term}
use Rattle.dcsp_rule.specs.declared.rule.Term.TheVariants.{Const, Var}
use Rattle.dcsp_rule.specs.declared.aim.Aim.{Aim}
use Rattle.dcsp_rule.specs.declared.aim.Aim.TheVariants.{Satisfy, Least, Greatest}
use Rattle.dcsp_rule.specs.declared.rule.Members.TheVariants.{Listed}
use Rattle.dcsp_rule.specs.declared.rule.Rule.{Rule}
use Rattle.dcsp_rule.specs.declared.rule.Rule.TheVariants.{Plain, Sum}
use Rattle.dcsp_rule.specs.Members.{is_member, values_of}

-- the variable, if the term is one
abbrev pub variable_of : Term → Option ℕ
variable_of (Const value) = None
variable_of (Var var) = Some var

-- the term's value
abbrev pub value_under : Assignment → Term → ℤ
value_under values (Const value) = value
value_under values (Var var) = values var

-- all terms of a rule: its lists one after another; of a sum its terms, its total, and the term of its truth if it has one
abbrev pub terms_of : Rule → List Term
terms_of (Plain kind scalars first second members) = scalars ++ first ++ second
terms_of (Sum rel coefs terms total told) = terms ++ total ∷ option_to_list told

-- the values that a rule lists as members, as they are written
abbrev pub listed_of : Rule → List ℤ
listed_of (Plain kind scalars first second members) = values_of members
listed_of (Sum rel coefs terms total told) = []

-- how many terms a rule counts for: its terms, and one for each listed value; coefficients count nothing
abbrev pub size_of : Rule → ℕ
size_of rule = length (terms_of rule) + length (listed_of rule)

-- the variables among the terms, as they stand there
abbrev pub variables_of : Rule → List ℕ
variables_of rule = filter_map variable_of (terms_of rule)

-- whether the variable is among the rule's terms
abbrev pub mentions : Rule → ℕ → Bool
mentions rule var = list_any (λ v. v == var) (variables_of rule)

-- the scope: those of so many variables that are among the rule's terms, rising
abbrev pub scope_of : ℕ → Rule → List ℕ
scope_of variables rule = filter (mentions rule) (below variables)

-- a truth by itself; where a value tells it, whether the value tells it rightly: 1 tells that it holds, any other number that it does not
abbrev pub is_told : Option ℤ → Bool → Bool
is_told None holds = holds
is_told (Some value) holds = same holds (is_one value)

-- each coefficient beside its term's value
abbrev pub weighted_values : Assignment → List ℤ → List Term → List (ℤ × ℤ)
weighted_values values coefs terms = zip coefs (map (value_under values) terms)

-- whether the rule holds where the variables have these values
abbrev pub rule_truth : Rule → Assignment → Bool
rule_truth (Plain kind scalars first second members) values =
    truth kind (map (value_under values) scalars) (map (value_under values) first) (map (value_under values) second) (is_member members)
rule_truth (Sum rel coefs terms total told) values =
    is_told (option_map (value_under values) told) (stands rel (sum_of (weighted_values values coefs terms)) (value_under values total))

-- whether the rule's kind takes as many arguments; a sum has as many coefficients as terms
abbrev pub has_shape : Rule → Bool
has_shape (Plain kind scalars first second members) = is_shape kind (length scalars) (length first) (length second)
has_shape (Sum rel coefs terms total told) = length coefs == length terms

-- a constant, or one of so many variables
abbrev pub IsTermOf : ℕ → Term → Type 0
IsTermOf variables (Const value) = Unit {0}
IsTermOf variables (Var var) = var < variables

-- an aim at one of so many variables, at a constant, or at nothing
abbrev pub IsAimOf : ℕ → Aim → Type 0
IsAimOf variables Satisfy = Unit {0}
IsAimOf variables (Least term) = IsTermOf variables term
IsAimOf variables (Greatest term) = IsTermOf variables term

-- a rule over so many variables, of an allowed shape
pub record IsRuleOf (variables : ℕ) (rule : Rule) : Type 0 where
  pub known : All (IsTermOf variables) (terms_of rule)
  pub shape : IsTrue (has_shape rule)

-- what stands past the last rule
abbrev pub no_rule : Rule
no_rule = Plain IntEq [] [] [] (Listed [])
