use Rattle.std.proofs.Common.{◌≡◌, ◌++◌, length, take}
use Rattle.std.specs.List.{concat}
use Rattle.abt_schedule.proofs.ScheduleLines.{front_lines}
use Rattle.abt_schedule.proofs.schedule.push_lines.Given as goal

-- the lines of the choices so far are written, and what was there stays
abbrev pub invariant-loop-choice : goal.invariant-loop-choice
invariant-loop-choice l = record {
  text : l.into.items ≡ l.fn.into.items ++ concat (front_lines (take l.choice-index l.choices));
  kept : take (length l.fn.into.items) l.into.items ≡ l.fn.into.items;
}
