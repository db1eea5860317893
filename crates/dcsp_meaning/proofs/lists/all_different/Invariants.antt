use Rattle.std.proofs.Common.{◌≡◌, drop}
use Rattle.dcsp_meaning.specs.Words.{are_different}
use Rattle.dcsp_meaning.proofs.lists.all_different.Given as goal

abbrev pub invariant-loop-place : goal.invariant-loop-place
invariant-loop-place g l = are_different (drop l.place (g.G.Ground.first_values l.ground)) ≡ are_different (g.G.Ground.first_values l.ground)
