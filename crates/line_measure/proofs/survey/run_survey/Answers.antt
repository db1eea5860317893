use Rattle.std.proofs.Common.{[], ◌∙◌, ap, Err, Option, List, ℕ, option_copied, refl, rules, ◌≡◌}
use Rattle.dcsp_rule.specs.Problems.{Contents}
use Rattle.dcsp_order.specs.Told.{ordered}
use Rattle.abt_network.specs.declared.Standing.TheVariants.{Quiet}
use Rattle.abt_input.specs.declared.error.CommandError.TheVariants.{Memory}
use Rattle.abt_input.proofs.Keeping.{kept, came_unread, came_read, came_unordered, came_ordered, came_answer_with, came_lacking, came_stopped}
use Rattle.line_measure.specs.MeasurePromise.{seeds, status_at, survey_plan, surveyed_under, worst}
use Rattle.line_measure.proofs.Lawful.{survey_sound}
use Rattle.line_measure.proofs.Placed.{surveyed_as}
use Rattle.line_measure.proofs.survey.run_survey.Goals as goal

pub returns-in_err-problem : goal.returns-in_err-problem
returns-in_err-problem g c =
    let l = c.args.line in
    let o = option_copied l.order_file in
    kept (survey_plan l.from l.count o) (survey_sound l.model.now l.from l.count o) (came_unread _ c.from_residual.ensures c.in_err-problem.ensures)

pub returns-in_err-read : goal.returns-in_err-read
returns-in_err-read g c =
    let l = c.args.line in
    let o = option_copied l.order_file in
    kept (survey_plan l.from l.count o) (survey_sound l.model.now l.from l.count o)
    (came_read c.in_ok-problem.ensures (came_unordered (surveyed_under l.from l.count c.in_ok-problem.problem) [] _ c.from_residual-in_err-read.ensures c.in_err-read.ensures.read))

pub returns-in_default : goal.returns-in_default
returns-in_default g c =
    let l = c.args.line in
    let o = option_copied l.order_file in
    kept (survey_plan l.from l.count o) (survey_sound l.model.now l.from l.count o)
    (came_read c.in_ok-problem.ensures (came_ordered (surveyed_under l.from l.count c.in_ok-problem.problem) [] c.in_ok-read.ensures.read (came_lacking (Err Memory) (refl, refl))))

pub returns-in_err-end : goal.returns-in_err-end
returns-in_err-end g c =
    let l = c.args.line in
    let o = option_copied l.order_file in
    let p = c.in_ok-problem.problem in
    let moved : c.unwrap_or-run.result.now ≡ ordered (option_copied c.as_ref.result) p = search rules in
    let run = moved ∙ ap (λ (x : Option (List ℕ)). ordered x p) c.as_ref.ensures.value in
    let wrote = surveyed_as _ (ordered c.in_ok-read.read p) l.from l.count run (c.in_err-end.ensures.wrote (g.F.Folder.place c.read_order_of.new.folder)) in
    kept (survey_plan l.from l.count o) (survey_sound l.model.now l.from l.count o)
    (came_read c.in_ok-problem.ensures (came_ordered (surveyed_under l.from l.count p) [] c.in_ok-read.ensures.read (came_stopped _ c.from_residual-in_err-end.ensures wrote)))

pub returns : goal.returns
returns g c =
    let l = c.args.line in
    let o = option_copied l.order_file in
    let p = c.in_ok-problem.problem in
    let moved : c.unwrap_or-run.result.now ≡ ordered (option_copied c.as_ref.result) p = search rules in
    let run = moved ∙ ap (λ (x : Option (List ℕ)). ordered x p) c.as_ref.ensures.value in
    let wrote = surveyed_as _ (ordered c.in_ok-read.read p) l.from l.count run (c.in_ok-end.ensures.wrote (g.F.Folder.place c.read_order_of.new.folder)) in
    let status = c.status_of.ensures ∙ ap status_at c.in_ok-end.ensures.end ∙ ap (λ (q : Contents). status_at (worst q Quiet (seeds l.from l.count))) run in
    kept (survey_plan l.from l.count o) (survey_sound l.model.now l.from l.count o)
    (came_read c.in_ok-problem.ensures (came_ordered (surveyed_under l.from l.count p) [] c.in_ok-read.ensures.read (came_answer_with _ status wrote)))
