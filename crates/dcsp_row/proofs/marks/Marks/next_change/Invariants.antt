use Rattle.std.proofs.Common.{◌≡◌, ◌<◌, ◌≤◌, ◌/◌, ℕ}
use Rattle.dcsp_row.specs.Marks.{is_marked}
use Rattle.dcsp_row.proofs.marks.Marks.next_change.Given as goal

abbrev pub invariant-loop-block : goal.invariant-loop-block
invariant-loop-block l = (k : ℕ) → l.from ≤ k → k < l.size → k / 64 < l.block → is_marked l.self k ≡ is_marked l.other k
