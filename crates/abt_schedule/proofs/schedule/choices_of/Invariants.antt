use Rattle.std.proofs.Common.{length}
use Rattle.ngd_log.specs.Lines.{lines}
use Rattle.abt_schedule.proofs.FirstBad.{HasFront}
use Rattle.abt_schedule.proofs.schedule.choices_of.Given as goal

-- the lines so far are those of the choices
abbrev pub invariant-loop-choice : goal.invariant-loop-choice
invariant-loop-choice l = HasFront l.text l.choices.items (lines l.rest)

abbrev pub decreases-loop-choice : goal.decreases-loop-choice
decreases-loop-choice l = length l.rest
