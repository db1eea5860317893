use Rattle.abt_session.proofs.Delays.{Delays}
use Rattle.abt_session.proofs.starved_run.deliver_others.Given as goal

abbrev pub invariant-loop-made : goal.invariant-loop-made
invariant-loop-made l = Delays l.from l.to l.most l._made l.initial.network l.network l.initial.taken l.taken
