use Rattle.std.proofs.Common.{◌≡◌, drop}
use Rattle.std.specs.List.{list_any}
use Rattle.dcsp_meaning.specs.Words.{is_one}
use Rattle.dcsp_meaning.proofs.lists.some_true.Given as goal

abbrev pub invariant-loop-place : goal.invariant-loop-place
invariant-loop-place g l = list_any is_one (drop l.place (g.G.Ground.first_values l.ground)) ≡ list_any is_one (g.G.Ground.first_values l.ground)
