use Rattle.std.proofs.Common.{◌≡◌, ◌-◌, filter}
use Rattle.std.specs.List.{range_with_len}
use Rattle.dcsp_gen.specs.Lists.{lists_in}
use Rattle.dcsp_gen.specs.Meetings.{attends}
use Rattle.dcsp_gen.proofs.meeting_texts.meetings_of.Given as goal

abbrev pub invariant-loop-meeting : goal.invariant-loop-meeting
invariant-loop-meeting l = l.list.items ≡ filter (attends (lists_in l.groups) l.person) (range_with_len 1 (l.meeting - 1))
