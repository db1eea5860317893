use Rattle.std.proofs.Common.{◌≡◌, ◌+◌, ◌-◌, ◌≤◌, true, length}
use Rattle.std.specs.Prelude.{codes}
use Rattle.ngd_log.specs.Reading.{items_at, pair_at, pairs_from, rises}
use Rattle.ngd_log.proofs.Items.{with_front}
use Rattle.ngd_log.proofs.Rising.{last_var}
use Rattle.ngd_log.proofs.reader.nogood_from.Given as goal

-- the pairs so far and those of the rest are those of all the bytes
abbrev pub invariant-loop-next : goal.invariant-loop-next
invariant-loop-next l = record {
  same : with_front l.pairs.items (items_at (codes ",") pair_at (length l.bytes + 1 - length l.pairs.items) l.rest) ≡ pairs_from l.fn.first l.bytes;
  room : length l.pairs.items + length l.rest ≤ length l.bytes + 1;
  some : 1 ≤ length l.pairs.items;
  rising : rises l.pairs.items ≡ true;
  last : last_var 0 l.pairs.items ≡ l.last;
}

abbrev pub decreases-loop-next : goal.decreases-loop-next
decreases-loop-next l = length l.rest
