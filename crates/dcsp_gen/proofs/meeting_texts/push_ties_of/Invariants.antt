use Rattle.std.proofs.Common.{◌≡◌, ◌++◌, drop, string_bytes, flat_map}
use Rattle.dcsp_gen.specs.Lists.{next_to}
use Rattle.dcsp_gen.specs.Meetings.{tie_line}
use Rattle.dcsp_gen.proofs.meeting_texts.push_ties_of.Given as goal

abbrev pub invariant-loop-person : goal.invariant-loop-person
invariant-loop-person l =
    string_bytes l.text ++ flat_map (tie_line l.meeting) (next_to l.before (drop l.person-index l.later))
    ≡ string_bytes l.initial.text ++ flat_map (tie_line l.meeting) (next_to l.initial.before l.later)
