-- A problem under an order: the same problem, with each variable told by its place.
use Rattle.std.specs.Prelude.{ℕ, ℤ, List, [], map, slice_index_or}
use Rattle.std.specs.Option.{option_map}
use Rattle.dcsp_defs.specs.Csp.{Assignment}
use Rattle.dcsp_rule.specs.declared.rule.Term.{Term}
use Rattle.dcsp_rule.specs.declared.rule.Term.TheVariants.{Const, Var}
use Rattle.dcsp_rule.specs.declared.rule.Rule.{Rule}
use Rattle.dcsp_rule.specs.declared.rule.Rule.TheVariants.{Plain, Sum}
use Rattle.dcsp_rule.specs.declared.output.Output.{Output}
use Rattle.dcsp_rule.specs.declared.aim.Aim.{Aim}
use Rattle.dcsp_rule.specs.declared.aim.Aim.TheVariants.{Satisfy, Least, Greatest}
use Rattle.dcsp_rule.specs.Problems.{Contents}
use Rattle.dcsp_order.specs.Orders.{number_at, place_of}

-- a term
abbrev pub term_under : List ℕ → Term → Term
term_under order (Const value) = Const value
term_under order (Var var) = Var (place_of order var)

-- terms
abbrev pub terms_under : List ℕ → List Term → List Term
terms_under order terms = map (term_under order) terms

-- a rule; what it lists as members, and its coefficients, stay
abbrev pub rule_under : List ℕ → Rule → Rule
rule_under order (Plain kind scalars first second members) =
    Plain kind (terms_under order scalars) (terms_under order first) (terms_under order second) members
rule_under order (Sum rel coefs terms total told) =
    Sum rel coefs (terms_under order terms) (term_under order total) (option_map (term_under order) told)

-- what is told of a solution
abbrev pub output_under : List ℕ → Output → Output
output_under order o = record { name = o.name; boolean = o.boolean; shape = o.shape; terms = terms_under order o.terms }

-- what is wanted of a solution
abbrev pub aim_under : List ℕ → Aim → Aim
aim_under order Satisfy = Satisfy
aim_under order (Least term) = Least (term_under order term)
aim_under order (Greatest term) = Greatest (term_under order term)

-- the domain of the variable with this number
abbrev pub domain_at : Contents → ℕ → List ℤ
domain_at p number = slice_index_or p.domains number []

-- the problem under the order: the variable at each place has its domain there; rules keep their numbers
abbrev pub under : List ℕ → Contents → Contents
under order p = record {
  domains = map (domain_at p) order;
  rules = map (rule_under order) p.rules;
  outputs = map (output_under order) p.outputs;
  aim = aim_under order p.aim;
}

-- the values told by places
abbrev pub by_place : List ℕ → Assignment → Assignment
by_place order values place = values (number_at order place)

-- values by places, told by numbers
abbrev pub by_number : List ℕ → Assignment → Assignment
by_number order values number = values (place_of order number)
