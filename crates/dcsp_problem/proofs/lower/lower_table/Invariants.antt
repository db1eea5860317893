use Rattle.std.proofs.Common.{[], List, ℕ, map, take}
use Rattle.std.specs.List.{list_any}
use Rattle.dcsp_defs.specs.Words.{below}
use Rattle.dcsp_problem.specs.Owners.{owned_among}
use Rattle.dcsp_problem.specs.Lower.{ends_after, Adds}
use Rattle.dcsp_problem.proofs.lower.lower_table.Given as goal

abbrev pub invariant-loop-rule : goal.invariant-loop-rule
invariant-loop-rule l = Adds (λ var number. list_any (λ (scope : List ℕ). ends_after scope var number) (take l.rule l.scopes)) (map (owned_among []) (below l.variables)) l.owners.items
