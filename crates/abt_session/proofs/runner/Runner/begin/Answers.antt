use Rattle.std.proofs.Common.{sym, ap, ◌∙◌}
use Rattle.dcsp_script.proofs.Lines.{first_wrote, first_stopped}
use Rattle.dcsp_order.specs.Told.{steps_told}
use Rattle.abt_session.specs.Running.{order_of}
use Rattle.abt_session.specs.Sessions.{step_writes}
use Rattle.dcsp_script.proofs.StepLines.{memory_told}
use Rattle.abt_session.proofs.Pieces.{wrote_as}
use Rattle.abt_session.proofs.Whole.{created_here, created_still, on_ok}
use Rattle.abt_session.proofs.runner.Runner.begin.Goals as goal

pub returns-in_err-create-clause-wrote : goal.returns-in_err-create-clause-wrote
returns-in_err-create-clause-wrote g c = λ out. first_stopped c.from_residual.ensures (c.in_err-create.ensures.wrote out)

pub append-requires : goal.append-requires
append-requires g c = created_here _ c.args.self.now.task.log.now c.in_ok-create.ensures.created

pub returns-in_err-append-clause-wrote : goal.returns-in_err-append-clause-wrote
returns-in_err-append-clause-wrote g c = λ out.
    first_wrote (c.in_ok-create.ensures.wrote out) (first_stopped c.from_residual-in_err-append.ensures (c.in_err-append.ensures.wrote out))

pub append_begun-requires-clause-created : goal.append_begun-requires-clause-created
append_begun-requires-clause-created g c = created_still _ c.args.self.now.task.log.now c.in_ok-create.ensures.created c.in_ok-append.ensures.created

pub returns-in_err-begun-clause-wrote : goal.returns-in_err-begun-clause-wrote
returns-in_err-begun-clause-wrote g c = λ out.
    first_wrote (c.in_ok-create.ensures.wrote out) (first_wrote (c.in_ok-append.ensures.wrote out) (memory_told _ _ _ c.from_residual-in_err-begun.ensures))

pub returns-in_err-told-clause-wrote : goal.returns-in_err-told-clause-wrote
returns-in_err-told-clause-wrote g c = λ out.
    first_wrote (c.in_ok-create.ensures.wrote out) (first_wrote (c.in_ok-append.ensures.wrote out) (memory_told _ _ _ c.from_residual-in_err-told.ensures))

pub returns-clause-wrote : goal.returns-clause-wrote
returns-clause-wrote g c = λ out.
    let told = c.in_ok-told.ensures.told ∙ ap (steps_told (order_of c.args.self.now.task)) (sym c.in_ok-begun.ensures.starts.steps) in
    let steps = wrote_as (ap (step_writes c.args.self.now.task.log.now 1) told) (c.append_begun.ensures.wrote out) in
    first_wrote (c.in_ok-create.ensures.wrote out) (first_wrote (c.in_ok-append.ensures.wrote out) steps)

pub returns-clause-created : goal.returns-clause-created
returns-clause-created g c = on_ok c.append_begun.result (rw c.append_begun.ensures.created (created_still _ c.args.self.now.task.log.now c.in_ok-create.ensures.created c.in_ok-append.ensures.created))
