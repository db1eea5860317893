use Rattle.std.proofs.Common.{◌≡◌, ◌++◌, drop, string_bytes, flat_map}
use Rattle.dcsp_gen.specs.Lists.{list_of, lists_in}
use Rattle.dcsp_gen.specs.Meetings.{copy_line}
use Rattle.dcsp_gen.proofs.meeting_texts.push_copies_of.Given as goal

abbrev pub invariant-loop-person : goal.invariant-loop-person
invariant-loop-person l =
    string_bytes l.text ++ flat_map (copy_line (lists_in l.free) l.meeting) (drop l.person-index (list_of (lists_in l.groups) l.meeting))
    ≡ string_bytes l.initial.text ++ flat_map (copy_line (lists_in l.free) l.meeting) (list_of (lists_in l.groups) l.meeting)
