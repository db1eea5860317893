use Rattle.std.proofs.Common.{◌≡◌, [], Result, Ok, Err, ◌∙◌, sym, option_copied, rules}
use Rattle.std.specs.Prelude.{IfOk, OnOk, IsErr, IsErrAnd}
use Rattle.dcsp_script.specs.declared.status.Status.{Status}
use Rattle.abt_input.specs.declared.error.CommandError.{CommandError}
use Rattle.abt_input.proofs.Files.{read_held}
use Rattle.abt_input.proofs.Keeping.{kept, came_unread, came_read, came_unordered, came_ordered, came_answer_with, came_stopped}
use Rattle.abt_session.specs.Sessions.{run_script}
use Rattle.line_replay.specs.Settings.{settings_of}
use Rattle.line_replay.specs.Asked as asks
use Rattle.line_replay.specs.Asked.{solve}
use Rattle.line_replay.proofs.HeldOrders.{order_held, order_in, order_kept}
use Rattle.line_replay.proofs.Recording.{holds_record}
use Rattle.line_replay.proofs.HeldProblems.{holds_problem}
use Rattle.line_solve.specs.BestAnswers as answers
use Rattle.line_solve.specs.Searching.{best_search, round_count}
use Rattle.line_solve.specs.SearchScripts.{rounds_script}
use Rattle.line_solve.specs.SolvePromise.{plan_for, solve_plan}
use Rattle.line_solve.proofs.WholeProblems.{holds_whole}
use Rattle.line_solve.proofs.Lawful.{solve_sound, keeps_run, keeps_search}
use Rattle.line_solve.proofs.line.run_solve.Goals as goal

-- nothing is asked of an error
error_alone : (P : CommandError → Type 0) (Q : Status → Type 0) (r : Result Status CommandError) → IsErr r × IsErrAnd r P → IfOk r Q
error_alone P Q (Ok x) is = absurd (let no = is.0 in cc)
error_alone P Q (Err e) is = tt

-- nor of what is left
error_left : (P : CommandError → Type 0) (Q : Type 0) (r : Result Status CommandError) → IsErr r × IsErrAnd r P → OnOk r Q
error_left P Q (Ok x) is = absurd (let no = is.0 in cc)
error_left P Q (Err e) is = tt

pub returns-in_err-problem-clause-came : goal.returns-in_err-problem-clause-came
returns-in_err-problem-clause-came g c =
    let l = c.args.line in
    kept (solve_plan l.log.now (settings_of l.options)) (solve_sound l.model.now l.log.now (settings_of l.options)) (came_unread _ c.from_residual.ensures c.in_err-problem.ensures)

pub returns-in_err-order-clause-came : goal.returns-in_err-order-clause-came
returns-in_err-order-clause-came g c =
    let l = c.args.line in
    let s = settings_of l.options in
    let p = c.in_ok-problem.problem in
    kept (solve_plan l.log.now s) (solve_sound l.model.now l.log.now s) (came_read c.in_ok-problem.ensures (came_unordered (plan_for p.aim p l.log.now s) [] _ c.from_residual-in_err-order.ensures c.in_err-order.ensures.read))

pub returns-in_err-status : goal.returns-in_err-status
returns-in_err-status g c =
    let same : option_copied c.as_ref.result ≡ c.in_ok-order.order = search rules in
    let l = c.args.line in
    let e = c.in_ok-problem.ensures in
    let r = c.from_residual-in_err-status in
    record {
      came = kept (solve_plan l.log.now (settings_of l.options)) (solve_sound l.model.now l.log.now (settings_of l.options))
          (came_read e (came_ordered (plan_for c.in_ok-problem.problem.aim c.in_ok-problem.problem l.log.now (settings_of l.options)) [] c.in_ok-order.ensures.read (keeps_search c.in_ok-problem.problem l.log.now (settings_of l.options) c.in_ok-order.order _ (λ s. c.in_default.not-Satisfy (c.aim.ensures.aim ∙ s)) (came_stopped _ r.ensures (rw same at c.in_err-status.ensures.wrote)))));
      sound = error_alone _ _ r.result r.ensures;
      whole = error_alone _ _ r.result r.ensures;
      records = error_left _ _ r.result r.ensures;
    }

pub returns-in_default : goal.returns-in_default
returns-in_default g c =
    let same : option_copied c.as_ref.result ≡ c.in_ok-order.order = search rules in
    let l = c.args.line in
    let e = c.in_ok-problem.ensures in
    let held = (g.F.Folder.place c.args.outside.now.folder).held in
    record {
      came = kept (solve_plan l.log.now (settings_of l.options)) (solve_sound l.model.now l.log.now (settings_of l.options))
          (came_read e (came_ordered (plan_for c.in_ok-problem.problem.aim c.in_ok-problem.problem l.log.now (settings_of l.options)) [] c.in_ok-order.ensures.read (keeps_search c.in_ok-problem.problem l.log.now (settings_of l.options) c.in_ok-order.order _ (λ s. c.in_default.not-Satisfy (c.aim.ensures.aim ∙ s)) (came_answer_with _ (rw same at c.in_ok-status.ensures.status) (rw same at c.in_ok-status.ensures.wrote)))));
      sound = holds_problem held l.model.now c.in_ok-problem.problem (read_held e) c.denotes_csp.ensures.csp c.problems_are_small.ensures;
      whole = holds_whole held l.model.now c.in_ok-problem.problem (read_held e) c.denotes_csp.ensures.problem;
      records =
          let s = settings_of l.options in
          let p = c.in_ok-problem.problem in
          let order = c.in_ok-order.order in
          let search_of = best_search order p l.log.now s in
          holds_record l.model.now l.log.now s p order c.denotes_csp.ensures.problem c.requires (rounds_script search_of (round_count search_of)) (answers.answer_text search_of) _ _ _ _ _ (order_kept c.in_ok-order.ensures.read ∙ e.held)
          (read_held e) (order_in (option_copied l.options.order_file) order p e.held (order_held c.in_ok-order.ensures.read)) (rw same at c.in_ok-status.ensures.wrote);
    }

pub returns-in_err-status-2-clause-came : goal.returns-in_err-status-2-clause-came
returns-in_err-status-2-clause-came g c =
    let same : option_copied c.as_ref.result ≡ c.in_ok-order.order = search rules in
    let l = c.args.line in
    kept (solve_plan l.log.now (settings_of l.options)) (solve_sound l.model.now l.log.now (settings_of l.options))
    (came_read c.in_ok-problem.ensures (came_ordered (plan_for c.in_ok-problem.problem.aim c.in_ok-problem.problem l.log.now (settings_of l.options)) [] c.in_ok-order.ensures.read (keeps_run c.in_ok-problem.problem l.log.now (settings_of l.options) c.in_ok-order.order _ (sym c.aim.ensures.aim ∙ c.in-Satisfy.is) (came_stopped _ c.from_residual-in_err-status-2.ensures (rw same at c.in_err-status-2.ensures.wrote)))))

pub returns-clause-came : goal.returns-clause-came
returns-clause-came g c =
    let same : option_copied c.as_ref.result ≡ c.in_ok-order.order = search rules in
    let l = c.args.line in
    kept (solve_plan l.log.now (settings_of l.options)) (solve_sound l.model.now l.log.now (settings_of l.options))
    (came_read c.in_ok-problem.ensures (came_ordered (plan_for c.in_ok-problem.problem.aim c.in_ok-problem.problem l.log.now (settings_of l.options)) [] c.in_ok-order.ensures.read (keeps_run c.in_ok-problem.problem l.log.now (settings_of l.options) c.in_ok-order.order _ (sym c.aim.ensures.aim ∙ c.in-Satisfy.is) (came_answer_with _ (rw same at c.in_ok-status-2.ensures.status) (rw same at c.in_ok-status-2.ensures.wrote)))))

pub returns-clause-sound : goal.returns-clause-sound
returns-clause-sound g c = holds_problem (g.F.Folder.place c.args.outside.now.folder).held c.args.line.model.now c.in_ok-problem.problem (read_held c.in_ok-problem.ensures) c.denotes_csp.ensures.csp c.problems_are_small.ensures

pub returns-clause-whole : goal.returns-clause-whole
returns-clause-whole g c = holds_whole (g.F.Folder.place c.args.outside.now.folder).held c.args.line.model.now c.in_ok-problem.problem (read_held c.in_ok-problem.ensures) c.denotes_csp.ensures.problem

pub returns-clause-records : goal.returns-clause-records
returns-clause-records g c =
    let same : option_copied c.as_ref.result ≡ c.in_ok-order.order = search rules in
    let l = c.args.line in
    let e = c.in_ok-problem.ensures in
    let s = settings_of l.options in
    let p = c.in_ok-problem.problem in
    let order = c.in_ok-order.order in
    let asked = solve order p l.log.now s in
    holds_record l.model.now l.log.now s p order c.denotes_csp.ensures.problem c.requires (run_script asked.session) (asks.answer_text asked) _ _ _ _ _ (order_kept c.in_ok-order.ensures.read ∙ e.held)
    (read_held e) (order_in (option_copied l.options.order_file) order p e.held (order_held c.in_ok-order.ensures.read)) (rw same at c.in_ok-status-2.ensures.wrote)
