use Rattle.std.proofs.Common.{◌≡◌, ◌+◌, ◌-◌, ◌≤◌, length}
use Rattle.std.specs.Prelude.{codes}
use Rattle.ngd_log.specs.Reading.{items_at, reason_at, reasons_at}
use Rattle.ngd_log.proofs.Items.{with_front}
use Rattle.ngd_log.proofs.reader.reasons_at.Given as goal

-- the reasons so far and those of the rest are those of all the bytes
abbrev pub invariant-loop-next : goal.invariant-loop-next
invariant-loop-next l = record {
  same : with_front l.reasons.items (items_at (codes " ") reason_at (length l.bytes - length l.reasons.items) l.rest) ≡ reasons_at l.bytes;
  room : length l.reasons.items + length l.rest ≤ length l.bytes;
}

abbrev pub decreases-loop-next : goal.decreases-loop-next
decreases-loop-next l = length l.rest
