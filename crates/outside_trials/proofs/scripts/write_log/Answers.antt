use Rattle.dcsp_script.proofs.Lines.{first_wrote, first_stopped, then_rest, then_stopped}
use Rattle.outside_trials.proofs.scripts.write_log.Goals as goal

pub returns-in_err-create : goal.returns-in_err-create
returns-in_err-create g c = first_stopped c.from_residual.ensures (c.in_err-create.ensures.wrote _)

pub returns-in_err-write_notes : goal.returns-in_err-write_notes
returns-in_err-write_notes g c = first_wrote (c.in_ok-create.ensures.wrote _) (then_stopped _ c.from_residual-in_err-write_notes.ensures c.in_err-write_notes.ensures)

pub returns : goal.returns
returns g c = first_wrote (c.in_ok-create.ensures.wrote _) (then_rest c.in_ok-write_notes.ensures (c.put.ensures _))
