use Rattle.dcsp_script.proofs.Lines.{first_wrote, first_stopped}
use Rattle.line_rewrite.proofs.Writing.{created_here}
use Rattle.line_export.proofs.write.write_proof.Goals as goal

pub returns-in_err-create : goal.returns-in_err-create
returns-in_err-create g c = λ out. first_stopped c.from_residual.ensures (c.in_err-create.ensures.wrote out)

pub append_steps-requires-clause-created : goal.append_steps-requires-clause-created
append_steps-requires-clause-created g c = created_here _ c.args.name.now c.in_ok-create.ensures.created

pub returns : goal.returns
returns g c = λ out. first_wrote (c.in_ok-create.ensures.wrote out) (c.append_steps.ensures out)
