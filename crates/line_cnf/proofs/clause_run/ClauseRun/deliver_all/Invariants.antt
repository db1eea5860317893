use Rattle.line_cnf.proofs.ClauseLoop.{Far}
use Rattle.line_cnf.proofs.clause_run.ClauseRun.deliver_all.Given as goal

abbrev pub invariant-loop-made : goal.invariant-loop-made
invariant-loop-made g l = Far l.initial.self.network.problem l.most (g.C.Choices.answers l.initial.choices) l._made (g.C.Choices.answers l.choices) l.self
