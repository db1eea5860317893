use Rattle.std.proofs.Common.{◌≡◌, ◌+◌, drop}
use Rattle.std.specs.List.{list_any}
use Rattle.std.specs.Ordering.{int_eq}
use Rattle.dcsp_meaning.proofs.lists.comes_again.Given as goal

abbrev pub invariant-loop-later : goal.invariant-loop-later
invariant-loop-later g l = list_any (int_eq l.value) (drop l.later (g.G.Ground.first_values l.ground)) ≡ list_any (int_eq l.value) (drop (l.place + 1) (g.G.Ground.first_values l.ground))
