use Rattle.std.proofs.Common.{◌∙◌, sym}
use Rattle.dcsp_defs.specs.Csp.{Csp}
use Rattle.dcsp_rule.specs.Problems.{csp_of}
use Rattle.law_runs.specs.Worlds.{World}
use Rattle.abt_lossy.specs.InWorld.{reached}
use Rattle.abt_session.specs.Running.{IsEnd}
use Rattle.line_lossy.specs.Asked.{end_of}
use Rattle.line_lossy.specs.Runners.{order_of}
use Rattle.line_lossy.proofs.Endings.{ends_capped, ends_refuted, ends_solved}
use Rattle.line_lossy.proofs.ending.outcome_of.Goals.{in-Refuted, in-Open, in-Quiet+in-Ok}
use Rattle.line_lossy.proofs.ending.outcome_of.Goals as goal

pub returns-clause-gives : goal.returns-clause-gives
returns-clause-gives c = λ words has.
    let r = c.args.runner.now in
    let o = order_of r in
    let p : Csp = csp_of r.medium.problem in
    let w : World = reached r.medium words in
    let stands = c.state.ensures.world words has.after has.sound in
    let counts = c.handed_up_bounded.ensures p c.requires.csp words in
    let end : IsEnd o p w.network (end_of p w) c.match-state.end = elim c.match-state.branch [
      | in-Refuted z ↦ rw z.end-is (ends_refuted o p w (sym z.in-Refuted.is ∙ stands))
      | in-Open z ↦ rw z.end-is (ends_capped o p w (sym z.in-Open.is ∙ stands))
      | in-Quiet+in-Ok z ↦ rw z.end-is (ends_solved o p w (sym z.in-Quiet.is ∙ stands), z.in-Ok.ensures words has.after)
    ] in
    record { end = end; deliveries = has.deliveries ∙ counts.numbered; steps = has.steps }
