use Rattle.std.proofs.Common.{◌≡◌, take}
use Rattle.std.specs.List.{concat}
use Rattle.dcsp_order.proofs.TextLines.{front_lines}
use Rattle.dcsp_order.proofs.text.text_of.Given as goal

abbrev pub invariant-loop-number : goal.invariant-loop-number
invariant-loop-number l = l.text.items ≡ concat (front_lines (take l.number-index l.numbers))
