use Rattle.std.proofs.Common.{◌≡◌, ℕ, ◌+◌, ◌<◌, cond, take, length}
use Rattle.std.specs.Prelude.{slice_index_or}
use Rattle.ngd_rewrite.specs.Upgrade.{cites}
use Rattle.ngd_rewrite.proofs.ends.move_all.Given as goal

-- the steps among the reasons so far end at this one
abbrev pub invariant-loop-reason : goal.invariant-loop-reason
invariant-loop-reason l = record {
  count : length l.ends.items ≡ length l.fn.ends.items;
  each : (i : ℕ) → i < length l.fn.ends.items → slice_index_or l.ends.items i 0 ≡ cond (cites (i + 1) (take l.reason-index l.reasons)) l.number (slice_index_or l.fn.ends.items i 0);
}
