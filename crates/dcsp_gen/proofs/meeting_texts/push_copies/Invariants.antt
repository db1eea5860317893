use Rattle.std.proofs.Common.{◌≡◌, ◌++◌, ◌-◌, string_bytes, flat_map}
use Rattle.std.specs.List.{range_with_len}
use Rattle.dcsp_gen.specs.Lists.{lists_in}
use Rattle.dcsp_gen.specs.Meetings.{copy_lines}
use Rattle.dcsp_gen.proofs.meeting_texts.push_copies.Given as goal

abbrev pub invariant-loop-meeting : goal.invariant-loop-meeting
invariant-loop-meeting l = string_bytes l.text ≡ string_bytes l.initial.text ++ flat_map (copy_lines (lists_in l.free) (lists_in l.groups)) (range_with_len 1 (l.meeting - 1))
