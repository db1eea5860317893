use Rattle.std.proofs.Common.{◌≡◌, [], map}
use Rattle.dcsp_defs.specs.Words.{below}
use Rattle.dcsp_problem.specs.Owners.{owned_among}
use Rattle.dcsp_problem.proofs.index.empty_lists.Given as goal

abbrev pub invariant-loop-place : goal.invariant-loop-place
invariant-loop-place l = l.lists.items ≡ map (owned_among []) (below l._place)
