use Rattle.dcsp_script.proofs.Lines.{first_wrote, first_stopped}
use Rattle.outside_trials.proofs.scripts.write_note.Goals as goal

pub returns-in_err-append : goal.returns-in_err-append
returns-in_err-append g c = first_stopped c.from_residual.ensures (c.in_err-append.ensures.wrote _)

pub returns : goal.returns
returns g c = first_wrote (c.in_ok-append.ensures.wrote _) (c.put.ensures _)
