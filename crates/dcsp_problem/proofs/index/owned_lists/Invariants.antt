use Rattle.std.proofs.Common.{◌≡◌, map, take}
use Rattle.dcsp_defs.specs.Words.{below}
use Rattle.dcsp_problem.specs.Owners.{owned_among}
use Rattle.dcsp_problem.proofs.index.owned_lists.Given as goal

abbrev pub invariant-loop-rule : goal.invariant-loop-rule
invariant-loop-rule l = l.owned.items ≡ map (owned_among (take l.rule l.scopes)) (below l.variables)
