use Rattle.std.proofs.Common.{◌≡◌, length}
use Rattle.ngd_log.specs.Lines.{lines}
use Rattle.dcsp_order.specs.Taken.{AreTaken}
use Rattle.dcsp_order.proofs.FirstBad.{HasFront}
use Rattle.dcsp_order.proofs.text.order_of.Given as goal

-- the lines so far are those of the numbers
abbrev pub invariant-loop-place : goal.invariant-loop-place
invariant-loop-place l = record {
  front : HasFront l.variables l.text l.numbers.items (lines l.rest);
  taken : AreTaken l.numbers.items l.taken.items;
  as_many : length l.taken.items ≡ l.variables;
  count : length l.numbers.items ≡ l.place;
}
