use Rattle.std.proofs.Common.{◌∙◌}
use Rattle.dcsp_rule.specs.Problems.{csp_of}
use Rattle.abt_measure.proofs.RunLaws.{started_run}
use Rattle.abt_measure.proofs.run.started.Goals as goal

pub returns-clause-after : goal.returns-clause-after
returns-clause-after c =
    let s = c.in_ok-start.ensures in
    let m = c.in_ok-measures.ensures in
    started_run c.args.problem.now c.start.new.network _ c.start.new.measures _ c.args.listens c.in_ok-new.field-0 c.network-2.view_is c.measures.view_is s.problem s.stands s.sound s.begun
    (s.measured (m.counted (csp_of c.args.problem.now) c.vars-agents.ensures.vars) m.events) c.in_ok-new.ensures.none (s.long ∙ m.long ∙ c.vars-agents.ensures.vars) (c.in_ok-new.ensures.long ∙ c.vars-agents.ensures.vars)
