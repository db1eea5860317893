-- What a problem holds, and the abstract problem that it denotes.
use Rattle.std.specs.Prelude.{◌≡◌, ℕ, ◌<◌, ℤ, List, map, length, sum_by, slice_index_or, Option, Some, None, if◌then◌else◌}
use Rattle.dcsp_domain.specs.Sets.{has}
use Rattle.dcsp_defs.specs.Words.{In}
use Rattle.dcsp_defs.specs.Csp.{Csp, Constraint, PartialAssignment, domain, count}
use Rattle.dcsp_rule.specs.declared.rule.Rule.{Rule}
use Rattle.dcsp_rule.specs.declared.output.Output.{Output}
use Rattle.dcsp_rule.specs.declared.aim.Aim.{Aim}
use Rattle.dcsp_rule.specs.Rules.{scope_of, rule_truth, size_of, no_rule}

-- a domain for each variable, the rules, what is told of a solution, and what is wanted of one
pub record Contents : Type 0 where
  pub domains : List (List ℤ)
  pub rules : List Rule
  pub outputs : List Output
  pub aim : Aim

-- the constraint that a rule over so many variables denotes
abbrev pub constraint_of : ℕ → Rule → Constraint
constraint_of variables rule = record { scope = scope_of variables rule; test = rule_truth rule }

-- the abstract problem
abbrev pub csp_of : Contents → Csp
csp_of p = record { domains = p.domains; constraints = map (constraint_of (length p.domains)) p.rules }

-- the rule with this number
abbrev pub rule_at : Contents → ℕ → Rule
rule_at p number = slice_index_or p.rules number no_rule

-- the constraint that it denotes
abbrev pub constraint_at : Contents → ℕ → Constraint
constraint_at p number = constraint_of (length p.domains) (rule_at p number)

-- how many values all domains have
abbrev pub value_count : Contents → ℕ
value_count p = sum_by length p.domains

-- how many terms all rules have
abbrev pub term_count : Contents → ℕ
term_count p = sum_by size_of p.rules

-- the value, if it is in the domain
abbrev pub value_in : List ℤ → Option ℤ → Option ℤ
value_in values None = None
value_in values (Some value) = if has values value then Some value else None

-- those of the known values that are in their variables' domains
abbrev pub within_domains : Csp → PartialAssignment → PartialAssignment
within_domains p known var = value_in (domain p var) (known var)

-- every known value of a variable is in its domain
abbrev pub AreInDomains : Csp → PartialAssignment → Type 0
AreInDomains p known = (var : ℕ) (value : ℤ) → var < count p → known var ≡ Some value → In value (domain p var)
