use Rattle.std.proofs.Common.{◌+◌, ◌++◌, ◌∷◌, [], List, ℕ, Option, IfSome, length, option_to_list, rules, sym, ap, subst, ◌∙◌}
use Rattle.dcsp_defs.specs.declared.Step.{Step}
use Rattle.ngd_log.specs.StepText.{IsInRange, IsStepNumber}
use Rattle.abt_lossy.specs.InWorld.{LossyState, reached, Happens}
use Rattle.abt_session.specs.Sessions.{step_writes}
use Rattle.abt_session.specs.Running.{kept}
use Rattle.abt_session.proofs.Pieces.{stopped_so, made_then_memory, wrote_as}
use Rattle.dcsp_order.specs.Told.{steps_told}
use Rattle.line_lossy.specs.Runners.{order_of}
use Rattle.line_lossy.proofs.Making.{told_writes, steps_after, made_more, where_ok}
use Rattle.line_lossy.proofs.runner.LossyRunner.make_event.Goals as goal

pub append_made-requires-clause-number : goal.append_made-requires-clause-number
append_made-requires-clause-number g c = subst (λ (o : Option Step). IfSome o (λ s. IsStepNumber c.count_step.new.self.steps)) (sym c.as_ref.ensures.value) (search rules)

pub append_made-requires-clause-in_range : goal.append_made-requires-clause-in_range
append_made-requires-clause-in_range g c = subst (λ (o : Option Step). IfSome o IsInRange) (sym c.as_ref.ensures.value) (search rules)

pub returns-in_err-append_made-clause-wrote : goal.returns-in_err-append_made-clause-wrote
returns-in_err-append_made-clause-wrote g c = λ words out h.
    let old = c.args.self.now in
    let made = c.in-Ok.ensures.happens words h.after in
    let same = told_writes (order_of old) old.log.now (reached old.medium words).network.steps (reached old.medium (words ++ c.args.word ∷ [])).network.steps c.in-Ok.happened.step c.in-Ok-step_told.told c.count_step.new.self.steps old.steps (steps_after words c.args.word old.medium c.event.new.self c.in-Ok.happened made)
    (c.in-Ok-step_told.ensures.told ∙ ap (λ o. steps_told o (option_to_list c.in-Ok.happened.step)) c.count_step.ensures.same.order) h.steps c.count_step.ensures.steps in
    wrote_as (ap (λ (o : Option Step). step_writes c.count_step.new.self.log.now c.count_step.new.self.steps (option_to_list o)) c.as_ref.ensures.value ∙ ap (λ (l : List ℕ). step_writes l c.count_step.new.self.steps (option_to_list c.in-Ok-step_told.told)) c.count_step.ensures.same.log ∙ same) (stopped_so _ c.from_residual.ensures (c.in_err-append_made.ensures.wrote out))

pub returns-clause-wrote : goal.returns-clause-wrote
returns-clause-wrote g c = λ words out h.
    let old = c.args.self.now in
    let made = c.in-Ok.ensures.happens words h.after in
    let same = told_writes (order_of old) old.log.now (reached old.medium words).network.steps (reached old.medium (words ++ c.args.word ∷ [])).network.steps c.in-Ok.happened.step c.in-Ok-step_told.told c.count_step.new.self.steps old.steps (steps_after words c.args.word old.medium c.event.new.self c.in-Ok.happened made)
    (c.in-Ok-step_told.ensures.told ∙ ap (λ o. steps_told o (option_to_list c.in-Ok.happened.step)) c.count_step.ensures.same.order) h.steps c.count_step.ensures.steps in
    wrote_as (ap (λ (o : Option Step). step_writes c.count_step.new.self.log.now c.count_step.new.self.steps (option_to_list o)) c.as_ref.ensures.value ∙ ap (λ (l : List ℕ). step_writes l c.count_step.new.self.steps (option_to_list c.in-Ok-step_told.told)) c.count_step.ensures.same.log ∙ same) (made_then_memory c.take_down.result c.take_down.ensures.only_memory (c.in_ok-append_made.ensures.wrote out))

pub returns-clause-made : goal.returns-clause-made
returns-clause-made g c = λ words h.
    let old = c.args.self.now in
    let made = c.in-Ok.ensures.happens words h.after in
    let event = c.in-Ok.ensures in
    let count = c.count_step.ensures in
    let down = c.take_down.ensures in
    let medium = down.medium.0 ∙ count.medium in
    let number = option_to_list c.in-Ok.happened.delivered in
    where_ok c.take_down.result (λ taken. made_more words c.args.word old c.take_down.new.self c.in-Ok.happened h
    (subst (λ (m : LossyState). Happens old.medium m words c.args.word c.in-Ok.happened) (sym medium) made)
    (ap (λ (m : LossyState). m.begun) medium ∙ event.begun) (ap (λ (m : LossyState). m.spent) medium ∙ event.sound)
    (ap (λ (m : LossyState). m.problem) medium ∙ event.problem) (ap (λ (m : LossyState). m.events) medium ∙ event.counts)
    (down.medium.1 ∙ count.steps) (down.deliveries ∙ ap (λ n. n + length number) count.taken.1)
    (taken ∙ ap (λ (l : List ℕ). l ++ kept c.count_step.new.self.keep number) count.taken.0 ∙ ap (λ b. old.taken ++ kept b number) count.same.keep)
    (down.same.keep ∙ count.same.keep)) down.taken
