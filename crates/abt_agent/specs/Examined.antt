-- What the code counts as an agent looks at constraints and nogoods.
use Rattle.std.specs.Prelude.{◌≡◌, ℕ, ℤ, Bool, not, List, filter, map, take, Option}
use Rattle.dcsp_defs.specs.Words.{is_value}
use Rattle.dcsp_defs.specs.Csp.{Constraint, PartialAssignment, domain, is_violated, owned, with_value}
use Rattle.dcsp_rule.specs.Problems.{Contents, constraint_at, csp_of}
use Rattle.abt_defs.specs.Agents.{Record}
use Rattle.abt_defs.specs.Checks as counts
use Rattle.abt_defs.specs.Checks.{checks_of_values, is_decided, up_to}
use Rattle.abt_parts.specs.Stores.{records_of}
use Rattle.abt_agent.specs.declared.knowledge.Knowledge.{Knowledge}
use Rattle.abt_agent.specs.Causes.{told_to}

-- those of these values, without the agent's own
abbrev pub checks_but : Contents → ℕ → PartialAssignment → List Record → Option ℤ → List ℤ → counts.Checks
checks_but p i known recorded own values = checks_of_values (csp_of p) i known recorded (filter (λ v. not (is_value own v)) values)

-- those of all values of the agent but its own
abbrev pub other_checks : Knowledge → Option ℤ → counts.Checks
other_checks k own = checks_but k.problem.now k.me (told_to k) (records_of k.store) own (domain (csp_of k.problem.now) k.me)

-- whether each variable of the rule has a value among those that the agent was told, and this one of its own
abbrev pub is_decided_with : Knowledge → ℤ → ℕ → Bool
is_decided_with k v rule = is_decided (with_value k.me v (told_to k)) (constraint_at k.problem.now rule)

-- the first so many constraints that i owns are those up to the first that is violated
abbrev pub AreLookedAt : Contents → ℕ → PartialAssignment → ℕ → Type 0
AreLookedAt p i values n = let all : List Constraint = map (λ (x : ℕ × Constraint). x.1) (owned (csp_of p) i) in up_to (is_violated values) all ≡ take n all
