use Rattle.std.proofs.Common.{arith, string_bytes}
use Rattle.dcsp_gen.specs.Lists.{lists_in}
use Rattle.dcsp_gen.specs.Meetings.{tie_lines}
use Rattle.dcsp_gen.proofs.Ranges.{one_more}
use Rattle.dcsp_gen.proofs.meeting_texts.push_ties.Goals as goal

pub loop-meeting-preserved : goal.loop-meeting-preserved
loop-meeting-preserved c = one_more (tie_lines (lists_in c.args.groups.now)) (string_bytes c.args.text.now) (string_bytes c.loop-meeting.text) _ c.loop-meeting.meeting (omega (arith, c.loop-meeting.auto.meeting)) c.loop-meeting.invariant c.in_ok-push_ties_of.ensures
