use Rattle.std.proofs.Common.{◌≡◌, ◌+◌, ◌-◌, ◌≤◌, true, length}
use Rattle.std.specs.Prelude.{codes}
use Rattle.ngd_log.specs.Reading.{items_at, step_number_at}
use Rattle.ngd_log.specs.EntryReading.{numbers_at, rises_after}
use Rattle.ngd_log.proofs.Items.{with_front}
use Rattle.ngd_log.proofs.Rising.{last_number}
use Rattle.ngd_log.proofs.entry_reader.rising_at.Given as goal

-- the numbers so far and those of the rest are those of all the bytes
abbrev pub invariant-loop-next : goal.invariant-loop-next
invariant-loop-next l = record {
  same : with_front l.numbers.items (items_at (codes " ") step_number_at (length l.bytes - length l.numbers.items) l.rest) ≡ numbers_at l.bytes;
  room : length l.numbers.items + length l.rest ≤ length l.bytes;
  rising : rises_after 0 l.numbers.items ≡ true;
  last : last_number 0 l.numbers.items ≡ l.last;
}

abbrev pub decreases-loop-next : goal.decreases-loop-next
decreases-loop-next l = length l.rest
