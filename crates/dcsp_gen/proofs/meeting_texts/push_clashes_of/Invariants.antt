use Rattle.std.proofs.Common.{◌≡◌, ◌++◌, drop, string_bytes, flat_map}
use Rattle.dcsp_gen.specs.Meetings.{clash_line}
use Rattle.dcsp_gen.proofs.meeting_texts.push_clashes_of.Given as goal

abbrev pub invariant-loop-meetings : goal.invariant-loop-meetings
invariant-loop-meetings l =
    string_bytes l.text ++ flat_map (clash_line l.person) (drop l.meetings-index l.meetings-items) ≡ string_bytes l.initial.text ++ flat_map (clash_line l.person) l.meetings-items
