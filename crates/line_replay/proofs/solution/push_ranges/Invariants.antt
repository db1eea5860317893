use Rattle.std.proofs.Common.{◌≡◌, ◌++◌, take, flat_map}
use Rattle.line_replay.specs.Solutions.{range_text}
use Rattle.line_replay.proofs.solution.push_ranges.Given as goal

abbrev pub invariant-loop-range : goal.invariant-loop-range
invariant-loop-range l = l.into.items ≡ l.initial.into.items ++ flat_map range_text (take l.range-index l.ranges)
