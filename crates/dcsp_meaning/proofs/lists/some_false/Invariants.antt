use Rattle.std.proofs.Common.{◌≡◌, drop, not}
use Rattle.std.specs.List.{list_any}
use Rattle.dcsp_meaning.specs.Words.{is_one}
use Rattle.dcsp_meaning.proofs.lists.some_false.Given as goal

abbrev pub invariant-loop-place : goal.invariant-loop-place
invariant-loop-place g l = list_any (λ y. not (is_one y)) (drop l.place (g.G.Ground.second_values l.ground)) ≡ list_any (λ y. not (is_one y)) (g.G.Ground.second_values l.ground)
