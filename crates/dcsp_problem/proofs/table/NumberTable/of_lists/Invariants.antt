use Rattle.std.proofs.Common.{◌≡◌, take}
use Rattle.dcsp_problem.specs.Pieces.{pieces, AreCuts}
use Rattle.dcsp_problem.proofs.table.NumberTable.of_lists.Given as goal

abbrev pub invariant-loop-list : goal.invariant-loop-list
invariant-loop-list l = record {
  cuts : AreCuts l.numbers.items l.places.items;
  made : pieces l.numbers.items l.places.items ≡ take l.list-index l.lists;
}
