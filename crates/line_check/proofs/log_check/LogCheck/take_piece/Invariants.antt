use Rattle.std.proofs.Common.{length}
use Rattle.line_check.specs.LogChecks.{HasTakenFront}
use Rattle.line_check.proofs.log_check.LogCheck.take_piece.Given as goal

-- the piece before the rest has come
abbrev pub invariant-loop-others : goal.invariant-loop-others
invariant-loop-others l = HasTakenFront l.initial.self l.self l.piece l.rest

abbrev pub decreases-loop-others : goal.decreases-loop-others
decreases-loop-others l = length l.rest
