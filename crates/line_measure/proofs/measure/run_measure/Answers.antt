use Rattle.std.proofs.Common.{[], ◌∷◌, ◌∙◌, ap, Err, Option, List, ℕ, option_copied, refl, rules, subst, sym, ◌≡◌}
use Rattle.dcsp_rule.specs.Problems.{Contents, csp_of}
use Rattle.dcsp_order.specs.Told.{ordered, IsOrderFor}
use Rattle.abt_input.specs.declared.error.CommandError.TheVariants.{Memory}
use Rattle.abt_input.proofs.Keeping.{kept, came_unread, came_read, came_unordered, came_ordered, came_answer_with, came_lacking, came_stopped}
use Rattle.line_measure.specs.Numbers.{listed, numbers_of}
use Rattle.line_measure.specs.MeasurePromise.{measure_plan, measured_under, status_at}
use Rattle.line_measure.proofs.Lawful.{measure_sound}
use Rattle.line_measure.proofs.Placed.{measured_as, still_order}
use Rattle.line_measure.proofs.measure.run_measure.Goals as goal

pub returns-in_err-problem : goal.returns-in_err-problem
returns-in_err-problem g c =
    let l = c.args.line in
    let o = option_copied l.order_file in
    kept (measure_plan o) (measure_sound l.model.now l.schedule.now o) (came_unread _ c.from_residual.ensures c.in_err-problem.ensures)

pub returns-in_err-read : goal.returns-in_err-read
returns-in_err-read g c =
    let l = c.args.line in
    let o = option_copied l.order_file in
    kept (measure_plan o) (measure_sound l.model.now l.schedule.now o)
    (came_read c.in_ok-problem.ensures (came_unordered (measured_under c.in_ok-problem.problem) (l.schedule.now ∷ []) _ c.from_residual-in_err-read.ensures c.in_err-read.ensures.read))

pub returns-in_err-choices : goal.returns-in_err-choices
returns-in_err-choices g c =
    let l = c.args.line in
    let o = option_copied l.order_file in
    kept (measure_plan o) (measure_sound l.model.now l.schedule.now o)
    (came_read c.in_ok-problem.ensures (came_ordered (measured_under c.in_ok-problem.problem) (l.schedule.now ∷ []) c.in_ok-read.ensures.read (came_unread _ c.from_residual-in_err-choices.ensures c.in_err-choices.ensures)))

pub returns-in_default : goal.returns-in_default
returns-in_default g c =
    let l = c.args.line in
    let o = option_copied l.order_file in
    kept (measure_plan o) (measure_sound l.model.now l.schedule.now o)
    (came_read c.in_ok-problem.ensures (came_ordered (measured_under c.in_ok-problem.problem) (l.schedule.now ∷ []) c.in_ok-read.ensures.read (came_read c.in_ok-choices.ensures (came_lacking (Err Memory) (refl, refl)))))

pub tell_measures-requires : goal.tell_measures-requires
tell_measures-requires g c =
    let p = c.in_ok-problem.problem in
    let order = option_copied c.as_ref-order.result in
    let moved : c.unwrap_or-run.result.now ≡ ordered order p = search rules in
    subst (λ (q : Contents). IsOrderFor order q) (sym moved) (still_order order p c.in-Ok.ensures.order)

pub returns-in_err-status : goal.returns-in_err-status
returns-in_err-status g c =
    let l = c.args.line in
    let o = option_copied l.order_file in
    let p = c.in_ok-problem.problem in
    let order = c.in_ok-read.read in
    let is = c.as_ref-order.ensures.value in
    let moved : c.unwrap_or-run.result.now ≡ ordered (option_copied c.as_ref-order.result) p = search rules in
    let run = moved ∙ ap (λ (x : Option (List ℕ)). ordered x p) is in
    let wrote = measured_as _ order _ (ordered order p) _ is run (c.in_err-status.ensures.wrote (g.F.Folder.place c.read_choices.new.folder)) in
    kept (measure_plan o) (measure_sound l.model.now l.schedule.now o)
    (came_read c.in_ok-problem.ensures (came_ordered (measured_under p) (l.schedule.now ∷ []) c.in_ok-read.ensures.read (came_read c.in_ok-choices.ensures (came_stopped _ c.from_residual-in_err-status.ensures wrote))))

pub returns : goal.returns
returns g c =
    let l = c.args.line in
    let o = option_copied l.order_file in
    let p = c.in_ok-problem.problem in
    let order = c.in_ok-read.read in
    let is = c.as_ref-order.ensures.value in
    let moved : c.unwrap_or-run.result.now ≡ ordered (option_copied c.as_ref-order.result) p = search rules in
    let run = moved ∙ ap (λ (x : Option (List ℕ)). ordered x p) is in
    let wrote = measured_as _ order _ (ordered order p) _ is run (c.in_ok-status.ensures.wrote (g.F.Folder.place c.read_choices.new.folder)) in
    let status = c.in_ok-status.ensures.status ∙ ap (λ (q : Contents). status_at (numbers_of (csp_of q) (listed c.in_ok-choices.choices)).end) run in
    kept (measure_plan o) (measure_sound l.model.now l.schedule.now o)
    (came_read c.in_ok-problem.ensures (came_ordered (measured_under p) (l.schedule.now ∷ []) c.in_ok-read.ensures.read (came_read c.in_ok-choices.ensures (came_answer_with _ status wrote))))
