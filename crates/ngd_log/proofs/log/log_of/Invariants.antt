use Rattle.std.proofs.Common.{length}
use Rattle.ngd_log.specs.Lines.{lines}
use Rattle.ngd_log.proofs.FirstBad.{HasFront}
use Rattle.ngd_log.proofs.log.log_of.Given as goal

-- the lines so far are those of the steps
abbrev pub invariant-loop-line : goal.invariant-loop-line
invariant-loop-line l = HasFront l.text l.derivation (lines l.rest)

abbrev pub decreases-loop-line : goal.decreases-loop-line
decreases-loop-line l = length l.rest
