use Rattle.std.proofs.Common.{false, ◌∙◌, None}
use Rattle.std.specs.FinMap as map
use Rattle.abt_session.proofs.InOrder.{log_whole}
use Rattle.line_replay.specs.Asked.{seeded_session}
use Rattle.line_drill.specs.Drills.{log_name}
use Rattle.line_drill.proofs.run.run_problem.Goals as goal

pub returns-in-Ok-clause-log : goal.returns-in-Ok-clause-log
returns-in-Ok-clause-log c =
    let s = seeded_session None c.args.problem.now c.args.seed log_name false in
    (rw c.nothing.ensures at (rw c.new-choices.ensures at c.in-Ok.ensures.wrote)).ended.after.files log_name ∙ log_whole s (map.get c.args.outside.now.folder.files log_name)
