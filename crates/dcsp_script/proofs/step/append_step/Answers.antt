use Rattle.dcsp_script.proofs.StepLines.{line_appended}
use Rattle.dcsp_script.proofs.step.append_step.Goals as goal

pub returns-clause-wrote : goal.returns-clause-wrote
returns-clause-wrote g c = λ out. line_appended c.args.name.now (rw c.deref.ensures.value c.in_ok-end.ensures.ok) (c.append.ensures.wrote out)
