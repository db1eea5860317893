use Rattle.std.proofs.Common.{◌≡◌, ◌++◌, ◌-◌, string_bytes, flat_map}
use Rattle.std.specs.List.{range_with_len}
use Rattle.dcsp_gen.specs.Lists.{lists_in}
use Rattle.dcsp_gen.specs.Meetings.{clash_lines}
use Rattle.dcsp_gen.proofs.meeting_texts.push_clashes.Given as goal

abbrev pub invariant-loop-person : goal.invariant-loop-person
invariant-loop-person l = string_bytes l.text ≡ string_bytes l.initial.text ++ flat_map (clash_lines (lists_in l.groups)) (range_with_len 1 (l.person - 1))
