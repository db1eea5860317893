use Rattle.std.proofs.Common.{◌≡◌, ◌≤◌, ◌-◌, length, take}
use Rattle.std.specs.Io.KnownBytes.{Consumes}
use Rattle.abt_files.proofs.transfer.fill.Given as goal

-- the front of the room has the bytes that were taken
abbrev pub invariant-loop-count : goal.invariant-loop-count
invariant-loop-count g l =
    (l.count ≤ length l.room) × (length l.room ≡ length l.initial.room)
    × Consumes (g.R.Read.remaining l.initial.reader) (g.R.Read.remaining l.reader) (take l.count l.room)

abbrev pub decreases-loop-count : goal.decreases-loop-count
decreases-loop-count g l = length l.room - l.count
