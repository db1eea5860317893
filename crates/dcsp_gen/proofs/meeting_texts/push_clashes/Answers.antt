use Rattle.std.proofs.Common.{arith, string_bytes}
use Rattle.dcsp_gen.specs.Lists.{lists_in}
use Rattle.dcsp_gen.specs.Meetings.{clash_lines}
use Rattle.dcsp_gen.proofs.Ranges.{one_more}
use Rattle.dcsp_gen.proofs.meeting_texts.push_clashes.Goals as goal

pub loop-person-preserved : goal.loop-person-preserved
loop-person-preserved c = one_more (clash_lines (lists_in c.args.groups.now)) (string_bytes c.args.text.now) (string_bytes c.loop-person.text) _ c.loop-person.person (omega (arith, c.loop-person.auto.person)) c.loop-person.invariant c.in_ok-push_clashes_of.ensures
