use Rattle.std.proofs.Common.{[], Err, List, Option, ℕ, ◌≡◌, ◌∙◌, ap, option_copied, refl, rules}
use Rattle.dcsp_order.specs.Told.{ordered}
use Rattle.abt_input.specs.declared.error.CommandError.TheVariants.{Memory}
use Rattle.abt_input.proofs.Files.{read_held}
use Rattle.abt_input.proofs.Keeping.{kept, came_unread, came_read, came_unordered, came_ordered, came_answer, came_lacking, came_stopped}
use Rattle.line_starve.specs.StarvePromise.{starve_plan, starved_under, agent_of}
use Rattle.line_starve.proofs.Lawful.{starve_sound}
use Rattle.line_starve.proofs.Agents.{starved_as, rightly_as}
use Rattle.line_replay.proofs.HeldOrders.{order_held, order_in, order_kept}
use Rattle.line_starve.proofs.Files.{holds_starved, tells_starved}
use Rattle.line_starve.proofs.starve.run_starve.Goals as goal

pub returns-in_err-problem-clause-came : goal.returns-in_err-problem-clause-came
returns-in_err-problem-clause-came g c =
    let l = c.args.line in
    let o = option_copied l.order_file in
    kept (starve_plan l.from l.to l.file.now o) (starve_sound l.model.now l.from l.to l.file.now o) (came_unread _ c.from_residual.ensures c.in_err-problem.ensures)

pub returns-in_err-read-clause-came : goal.returns-in_err-read-clause-came
returns-in_err-read-clause-came g c =
    let l = c.args.line in
    let o = option_copied l.order_file in
    kept (starve_plan l.from l.to l.file.now o) (starve_sound l.model.now l.from l.to l.file.now o) (came_read c.in_ok-problem.ensures (came_unordered (starved_under l.from l.to l.file.now c.in_ok-problem.problem) [] _ c.from_residual-in_err-read.ensures c.in_err-read.ensures.read))

pub returns-in_default-clause-came : goal.returns-in_default-clause-came
returns-in_default-clause-came g c =
    let l = c.args.line in
    let o = option_copied l.order_file in
    kept (starve_plan l.from l.to l.file.now o) (starve_sound l.model.now l.from l.to l.file.now o) (came_read c.in_ok-problem.ensures (came_ordered (starved_under l.from l.to l.file.now c.in_ok-problem.problem) [] c.in_ok-read.ensures.read (came_lacking (Err Memory) (refl, refl))))

pub returns-in_err-run_starved-clause-came : goal.returns-in_err-run_starved-clause-came
returns-in_err-run_starved-clause-came g c =
    let l = c.args.line in
    let o = option_copied l.order_file in
    let p = c.in_ok-problem.problem in
    let order = c.in_ok-read.read in
    let moved : c.unwrap_or.result.now ≡ ordered (option_copied c.as_ref-order.result) p = search rules in
    let run = moved ∙ ap (λ (x : Option (List ℕ)). ordered x p) c.as_ref-order.ensures.value in
    let from = c.place_of.ensures ∙ ap (λ (x : Option (List ℕ)). agent_of x l.from) c.as_ref-order.ensures.value in
    let to = c.place_of-2.ensures ∙ ap (λ (x : Option (List ℕ)). agent_of x l.to) c.as_ref-order.ensures.value in
    kept (starve_plan l.from l.to l.file.now o) (starve_sound l.model.now l.from l.to l.file.now o)
    (came_read c.in_ok-problem.ensures (came_ordered (starved_under l.from l.to l.file.now c.in_ok-problem.problem) [] c.in_ok-read.ensures.read (came_stopped _ c.from_residual-in_err-run_starved.ensures (starved_as _ _ _ _ _ _ run from to l.file.now c.in_err-run_starved.ensures.wrote))))

pub returns-clause-came : goal.returns-clause-came
returns-clause-came g c =
    let l = c.args.line in
    let o = option_copied l.order_file in
    let p = c.in_ok-problem.problem in
    let order = c.in_ok-read.read in
    let moved : c.unwrap_or.result.now ≡ ordered (option_copied c.as_ref-order.result) p = search rules in
    let run = moved ∙ ap (λ (x : Option (List ℕ)). ordered x p) c.as_ref-order.ensures.value in
    let from = c.place_of.ensures ∙ ap (λ (x : Option (List ℕ)). agent_of x l.from) c.as_ref-order.ensures.value in
    let to = c.place_of-2.ensures ∙ ap (λ (x : Option (List ℕ)). agent_of x l.to) c.as_ref-order.ensures.value in
    kept (starve_plan l.from l.to l.file.now o) (starve_sound l.model.now l.from l.to l.file.now o)
    (came_read c.in_ok-problem.ensures (came_ordered (starved_under l.from l.to l.file.now p) [] c.in_ok-read.ensures.read (came_answer (starved_as _ _ _ _ _ _ run from to l.file.now c.in_ok-run_starved.ensures.wrote))))

pub returns-clause-writes : goal.returns-clause-writes
returns-clause-writes g c =
    let l = c.args.line in
    let p = c.in_ok-problem.problem in
    let order = c.in_ok-read.read in
    let w = c.in_ok-run_starved.ensures in
    let e = c.in_ok-problem.ensures in
    let moved : c.unwrap_or.result.now ≡ ordered (option_copied c.as_ref-order.result) p = search rules in
    let run = moved ∙ ap (λ (x : Option (List ℕ)). ordered x p) c.as_ref-order.ensures.value in
    let from = c.place_of.ensures ∙ ap (λ (x : Option (List ℕ)). agent_of x l.from) c.as_ref-order.ensures.value in
    let to = c.place_of-2.ensures ∙ ap (λ (x : Option (List ℕ)). agent_of x l.to) c.as_ref-order.ensures.value in
    let right = rightly_as _ _ _ _ _ _ run from to (record { schedule = w.schedule; replayed = w.replayed; bound = w.bound }) in
    holds_starved l.model.now l.from l.to l.file.now (option_copied l.order_file) p order _ _ _ _ _ (order_kept c.in_ok-read.ensures.read ∙ e.held) (read_held e) (order_in (option_copied l.order_file) order p e.held (order_held c.in_ok-read.ensures.read)) right (starved_as _ _ _ _ _ _ run from to l.file.now w.wrote)

pub returns-clause-tells : goal.returns-clause-tells
returns-clause-tells g c =
    let l = c.args.line in
    let p = c.in_ok-problem.problem in
    let order = c.in_ok-read.read in
    let w = c.in_ok-run_starved.ensures in
    let e = c.in_ok-problem.ensures in
    let moved : c.unwrap_or.result.now ≡ ordered (option_copied c.as_ref-order.result) p = search rules in
    let run = moved ∙ ap (λ (x : Option (List ℕ)). ordered x p) c.as_ref-order.ensures.value in
    let from = c.place_of.ensures ∙ ap (λ (x : Option (List ℕ)). agent_of x l.from) c.as_ref-order.ensures.value in
    let to = c.place_of-2.ensures ∙ ap (λ (x : Option (List ℕ)). agent_of x l.to) c.as_ref-order.ensures.value in
    tells_starved l.model.now l.from l.to l.file.now (option_copied l.order_file) p order (g.F.Folder.place c.args.outside.now.folder).held (g.F.Folder.place c.read_order_of.new.folder) (g.S.Sink.stream c.args.outside.now.out) _ _
    (read_held e) (order_in (option_copied l.order_file) order p e.held (order_held c.in_ok-read.ensures.read)) (starved_as _ _ _ _ _ _ run from to l.file.now w.wrote)
