use Rattle.std.proofs.Common.{◌∷◌, ◌++◌, ◌∙◌, [], Option, IfSome, option_copied, option_to_list, ap, refl, subst, sym}
use Rattle.dcsp_defs.specs.declared.Step.{Step}
use Rattle.ngd_log.specs.StepText.{IsStepNumber}
use Rattle.dcsp_script.proofs.Lines.{then_rest, then_stopped}
use Rattle.abt_network.specs.Rooms.{delivery_in, made_in}
use Rattle.abt_network.specs.Standing.{delivery_of}
use Rattle.abt_session.specs.Sessions.{step_writes, telling_writes}
use Rattle.abt_session.proofs.Pieces.{numbered, wrote_as}
use Rattle.abt_session.proofs.Writing.{same_writes}
use Rattle.abt_session.proofs.runner.Runner.write_made.Goals as goal

pub append_made-requires-clause-number : goal.append_made-requires-clause-number
append_made-requires-clause-number g c =
    subst (λ (o : Option Step). IfSome o (λ s. IsStepNumber c.steps-steps.result)) (sym c.made.ensures)
    (numbered (made_in c.args.self.now.room) c.steps-steps.ensures.steps (c.steps-steps.ensures.fits c.requires.sound) c.requires.number)

pub returns-in_err-append_made-clause-wrote : goal.returns-in_err-append_made-clause-wrote
returns-in_err-append_made-clause-wrote g c =
    let old = c.args.self.now in
    let d = delivery_in old.room in
    wrote_as (same_writes old.task.log.now old.task.telling (option_copied c.made.result) (delivery_of d ∷ []) c.steps-steps.result old.network.steps old.network.deliveries old.network.deliveries c.steps-steps.ensures.steps refl ∙ ap (λ (o : Option Step). step_writes old.task.log.now old.network.steps (option_to_list o) ++ telling_writes old.task.telling old.network.deliveries old.network.steps (delivery_of d ∷ [])) c.made.ensures)
    (then_stopped (telling_writes old.task.telling old.network.deliveries c.steps-steps.result (delivery_of d ∷ [])) c.from_residual.ensures (c.in_err-append_made.ensures.wrote _))

pub returns-clause-wrote : goal.returns-clause-wrote
returns-clause-wrote g c =
    let old = c.args.self.now in
    let d = delivery_in old.room in
    wrote_as (same_writes old.task.log.now old.task.telling (option_copied c.made.result) (delivery_of d ∷ []) c.steps-steps.result old.network.steps c.deliveries.result old.network.deliveries c.steps-steps.ensures.steps c.deliveries.ensures ∙ ap (λ (o : Option Step). step_writes old.task.log.now old.network.steps (option_to_list o) ++ telling_writes old.task.telling old.network.deliveries old.network.steps (delivery_of d ∷ [])) c.made.ensures)
    (then_rest (c.in_ok-append_made.ensures.wrote _) (c.put_delivery.ensures _))
