use Rattle.std.proofs.Common.{arith}
use Rattle.dcsp_gen.specs.Lists.{lists_in}
use Rattle.dcsp_gen.specs.Meetings.{attends}
use Rattle.dcsp_gen.proofs.Ranges.{filtered_more}
use Rattle.dcsp_gen.proofs.meeting_texts.meetings_of.Goals as goal

pub loop-meeting-preserved : goal.loop-meeting-preserved
loop-meeting-preserved c =
    filtered_more (attends (lists_in c.args.groups.now) c.args.person) c.loop-meeting.list.items _ _ c.loop-meeting.meeting (omega (arith, c.loop-meeting.auto.meeting)) c.loop-meeting.invariant c.attends.ensures c.in_ok-push_if.ensures
