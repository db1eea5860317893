use Rattle.std.proofs.Common.{◌∙◌, ap}
use Rattle.abt_session.proofs.Pieces.{line_put, memory_at_once}
use Rattle.dcsp_script.proofs.Lines.{first_stopped, first_wrote, wrote_nothing}
use Rattle.line_measure.specs.MeasurePromise.{status_at}
use Rattle.line_measure.proofs.measure.tell_measures.Goals as goal

pub returns-in_default-clause-wrote : goal.returns-in_default-clause-wrote
returns-in_default-clause-wrote g c = λ folder. memory_at_once _ _

pub returns-in_err-put-clause-wrote : goal.returns-in_err-put-clause-wrote
returns-in_err-put-clause-wrote g c = λ folder. first_stopped c.from_residual.ensures (line_put _ _ c.deref.ensures.value c.in-Ok.ensures.text c.new-text.ensures.items (c.in_err-put.ensures folder))

pub returns-clause-wrote : goal.returns-clause-wrote
returns-clause-wrote g c = λ folder. first_wrote (line_put _ _ c.deref.ensures.value c.in-Ok.ensures.text c.new-text.ensures.items (c.in_ok-put.ensures folder)) wrote_nothing

pub returns-clause-status : goal.returns-clause-status
returns-clause-status g c = c.status_of.ensures ∙ ap status_at c.in-Ok.ensures.end
