use Rattle.abt_measure.proofs.RunLaws.{Far}
use Rattle.abt_measure.proofs.run.MeasuredRun.deliver_all.Given as goal

abbrev pub invariant-loop-made : goal.invariant-loop-made
invariant-loop-made g l = Far l.initial.self.network.problem l.most (g.C.Choices.answers l.initial.choices) l.initial.self.listens l._made (g.C.Choices.answers l.choices) l.self
