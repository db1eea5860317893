-- What is counted as an agent looks at constraints and nogoods.
use Rattle.std.specs.Prelude.{◌+◌}
use Rattle.abt_defs.specs.Checks as counts
use Rattle.abt_parts.specs.declared.checks.Checks.{Checks}

-- the checks of the definitions
abbrev pub as_checks : Checks → counts.Checks
as_checks c = record { constraints = c.constraints; nogoods = c.nogoods }

-- both
abbrev pub sum_of : counts.Checks → counts.Checks → counts.Checks
sum_of a b = record { constraints = a.constraints + b.constraints; nogoods = a.nogoods + b.nogoods }
