use Rattle.std.proofs.Common.{◌≡◌, ◌<◌, ℕ, map, take}
use Rattle.std.specs.Prelude.{All}
use Rattle.dcsp_problem.specs.Lower.{set_below}
use Rattle.dcsp_problem.specs.Pieces.{pieces, AreCuts}
use Rattle.dcsp_problem.proofs.table.NumberTable.of_sets.Given as goal

abbrev pub invariant-loop-list : goal.invariant-loop-list
invariant-loop-list l = record {
  cuts : AreCuts l.numbers.items l.places.items;
  made : (n : ℕ) → All (λ list. All (λ x. x < n) list) l.lists → pieces l.numbers.items l.places.items ≡ map (set_below n) (take l.list-index l.lists);
}
