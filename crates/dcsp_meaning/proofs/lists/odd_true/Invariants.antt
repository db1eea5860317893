use Rattle.std.proofs.Common.{◌≡◌, ◌≤◌, take, count_by}
use Rattle.dcsp_meaning.specs.Words.{is_one}
use Rattle.dcsp_meaning.proofs.lists.odd_true.Given as goal

abbrev pub invariant-loop-place : goal.invariant-loop-place
invariant-loop-place g l = record {
  counted : l.many ≡ count_by is_one (take l.place (g.G.Ground.first_values l.ground));
  below : l.many ≤ l.place;
}
