use Rattle.std.proofs.Common.{◌≡◌, ◌≤◌, take}
use Rattle.abt_optimum.specs.Halves.{rank}
use Rattle.abt_optimum.proofs.halves.rank.Given as goal

abbrev pub invariant-loop-place : goal.invariant-loop-place
invariant-loop-place l = (l.count ≡ rank l.aim (take l.place l.domain) l.value) × (l.count ≤ l.place)
