use Rattle.std.proofs.Common.{◌-◌}
use Rattle.dcsp_script.specs.Outsides.{world}
use Rattle.abt_optimum.specs.Rounds.{most_rounds}
use Rattle.abt_session.specs.Ordering.{order_in}
use Rattle.line_replay.specs.Settings.{settings_of}
use Rattle.line_solve.specs.Searching.{best_search}
use Rattle.line_solve.proofs.Turns.{Turn}
use Rattle.line_solve.proofs.runner.SearchRunner.run.Given as goal

abbrev pub invariant-loop-self : goal.invariant-loop-self
invariant-loop-self g l =
    Turn (best_search (order_in l.model) l.model.problem.now l.line.log.now (settings_of l.line.options)) l.self.rounds l.self
    (world g.F.Folder.place g.S.Sink.stream l.initial.outside) (world g.F.Folder.place g.S.Sink.stream l.outside)

abbrev pub decreases-loop-self : goal.decreases-loop-self
decreases-loop-self g l = most_rounds l.model.problem.now - l.self.rounds
