use Rattle.abt_marks.specs.Links.{AreLinkedBefore}
use Rattle.abt_marks.proofs.link_table.first_unmarked.Given as goal

abbrev pub invariant-loop-agent : goal.invariant-loop-agent
invariant-loop-agent l = AreLinkedBefore l.agent l.marks
