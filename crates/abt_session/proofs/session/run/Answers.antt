use Rattle.std.proofs.Common.{◌≡◌, ℕ, subst, rules}
use Rattle.dcsp_rule.specs.Problems.{Contents, csp_of}
use Rattle.dcsp_order.specs.Told.{ordered}
use Rattle.dcsp_script.specs.Outsides.{world}
use Rattle.dcsp_script.specs.Ways.{Wrote}
use Rattle.abt_session.specs.Answers.{first_answers}
use Rattle.abt_session.specs.Sessions.{run_script}
use Rattle.abt_session.specs.Running.{order_of, session_by, session_for}
use Rattle.abt_session.proofs.InOrder.{wrote_in_order}
use Rattle.dcsp_script.proofs.StepLines.{memory_at_once}
use Rattle.abt_session.proofs.session.run.Goals as goal

pub returns-in_default-clause-in_order : goal.returns-in_default-clause-in_order
returns-in_default-clause-in_order g c =
    let s = session_by (g.C.Choices.answers c.args.choices.now) c.args.task in
    wrote_in_order s {T = ℕ} (memory_at_once (run_script s) (world g.F.Folder.place g.S.Sink.stream c.args.outside.now))

pub returns-in_default-clause-verdicts : goal.returns-in_default-clause-verdicts
returns-in_default-clause-verdicts g c =
    c.verdicts.ensures (csp_of (ordered (order_of c.args.task) c.args.task.model.problem.now)) c.in_default.ensures.csp c.args.task.most (first_answers c.args.task.most (g.C.Choices.answers c.args.choices.now))

pub returns-in_default-clause-stops : goal.returns-in_default-clause-stops
returns-in_default-clause-stops g c =
    c.stops.ensures (csp_of (ordered (order_of c.args.task) c.args.task.model.problem.now)) c.args.task.most (first_answers c.args.task.most (g.C.Choices.answers c.args.choices.now))

pub returns-clause-in_order : goal.returns-clause-in_order
returns-clause-in_order g c =
    let answers = g.C.Choices.answers c.args.choices.now in
    let p : Contents = ordered (order_of c.args.task) c.args.task.model.problem.now in
    let same : c.unwrap_or-ordered.result.now ≡ p = search rules in
    wrote_in_order (session_by answers c.args.task)
    (subst (λ (q : Contents). Wrote (run_script (session_for q answers c.args.task)) (world g.F.Folder.place g.S.Sink.stream c.args.outside.now) (world g.F.Folder.place g.S.Sink.stream c.run_ordered.new.outside) c.run_ordered.result)
    same c.run_ordered.ensures.wrote)

pub returns-clause-verdicts : goal.returns-clause-verdicts
returns-clause-verdicts g c =
    c.verdicts.ensures (csp_of (ordered (order_of c.args.task) c.args.task.model.problem.now)) c.in-Ok.ensures.csp c.args.task.most (first_answers c.args.task.most (g.C.Choices.answers c.args.choices.now))

pub returns-clause-stops : goal.returns-clause-stops
returns-clause-stops g c =
    c.stops.ensures (csp_of (ordered (order_of c.args.task) c.args.task.model.problem.now)) c.args.task.most (first_answers c.args.task.most (g.C.Choices.answers c.args.choices.now))
