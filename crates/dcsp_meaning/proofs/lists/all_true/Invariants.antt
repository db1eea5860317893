use Rattle.std.proofs.Common.{◌≡◌, drop}
use Rattle.std.specs.List.{list_all}
use Rattle.dcsp_meaning.specs.Words.{is_one}
use Rattle.dcsp_meaning.proofs.lists.all_true.Given as goal

abbrev pub invariant-loop-place : goal.invariant-loop-place
invariant-loop-place g l = list_all is_one (drop l.place (g.G.Ground.first_values l.ground)) ≡ list_all is_one (g.G.Ground.first_values l.ground)
