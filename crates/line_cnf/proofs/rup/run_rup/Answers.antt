use Rattle.std.proofs.Common.{sym, ◌∙◌}
use Rattle.abt_input.proofs.Files.{read_held}
use Rattle.abt_input.proofs.Keeping.{kept, came_unread, came_read, came_found, came_answer_with, came_stopped, came_lacking}
use Rattle.line_cnf.specs.RupPromise.{rup_plan}
use Rattle.line_cnf.proofs.Lawful.{rup_sound}
use Rattle.line_cnf.proofs.Answers.{tells_status, holds_refuted, verified_of}
use Rattle.line_cnf.proofs.rup.run_rup.Goals as goal

pub returns-in_err-problem-clause-came : goal.returns-in_err-problem-clause-came
returns-in_err-problem-clause-came g c = kept rup_plan (rup_sound c.args.cnf.now c.args.proof.now) (came_unread _ c.from_residual.ensures c.in_err-problem.ensures.read)

pub returns-in_err-clauses-clause-came : goal.returns-in_err-clauses-clause-came
returns-in_err-clauses-clause-came g c =
    kept rup_plan (rup_sound c.args.cnf.now c.args.proof.now)
    (came_read c.in_ok-problem.ensures.read (came_unread _ c.from_residual-in_err-clauses.ensures c.in_err-clauses.ensures))

pub returns-in_err-answer-clause-came : goal.returns-in_err-answer-clause-came
returns-in_err-answer-clause-came g c =
    kept rup_plan (rup_sound c.args.cnf.now c.args.proof.now)
    (came_read c.in_ok-problem.ensures.read (came_read c.in_ok-clauses.ensures (came_lacking _ c.from_residual-in_err-answer.ensures)))

pub returns-in_err-tell-clause-came : goal.returns-in_err-tell-clause-came
returns-in_err-tell-clause-came g c =
    kept rup_plan (rup_sound c.args.cnf.now c.args.proof.now)
    (came_read c.in_ok-problem.ensures.read (came_read c.in_ok-clauses.ensures (came_found c.in_ok-answer.answer c.in_ok-answer.ensures.verdict (came_stopped _ c.from_residual-in_err-tell.ensures (c.in_err-tell.ensures _)))))

pub returns-clause-came : goal.returns-clause-came
returns-clause-came g c =
    kept rup_plan (rup_sound c.args.cnf.now c.args.proof.now)
    (came_read c.in_ok-problem.ensures.read (came_read c.in_ok-clauses.ensures (came_found c.in_ok-answer.answer c.in_ok-answer.ensures.verdict (came_answer_with _ c.rup_status.ensures (c.in_ok-tell.ensures _)))))

pub returns-clause-exact : goal.returns-clause-exact
returns-clause-exact g c =
    let e = c.in_ok-problem.ensures.read in
    tells_status _ _ _ _ _ _ _ _ e.held c.rup_status.ensures (read_held e) (read_held c.in_ok-clauses.ensures) c.in_ok-answer.ensures.verdict

pub returns-clause-refutes : goal.returns-clause-refutes
returns-clause-refutes g c = λ good. holds_refuted _ _ _ (read_held c.in_ok-problem.ensures.read) (c.in_ok-answer.ensures.refutes (verified_of c.in_ok-answer.answer (sym c.rup_status.ensures ∙ good)))
