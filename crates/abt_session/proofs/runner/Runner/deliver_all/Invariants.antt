use Rattle.dcsp_script.specs.Outsides.{world}
use Rattle.abt_session.specs.Running.{session_for}
use Rattle.abt_session.proofs.Turns.{Loop}
use Rattle.abt_session.proofs.runner.Runner.deliver_all.Given as goal

abbrev pub invariant-loop-made : goal.invariant-loop-made
invariant-loop-made g l =
    Loop (session_for l.initial.self.network.problem (g.C.Choices.answers l.initial.choices) l.initial.self.task) l._made l.initial.self l.self (g.C.Choices.answers l.initial.choices)
    (g.C.Choices.answers l.choices) (world g.F.Folder.place g.S.Sink.stream l.initial.outside) (world g.F.Folder.place g.S.Sink.stream l.outside)
