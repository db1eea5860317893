use Rattle.abt_session.proofs.Pieces.{memory_at_once}
use Rattle.dcsp_script.proofs.Lines.{first_stopped, first_wrote, wrote_nothing}
use Rattle.line_measure.proofs.SurveyLaws.{seed_put}
use Rattle.line_measure.proofs.survey.tell_seed.Goals as goal

pub returns-in_default-clause-wrote : goal.returns-in_default-clause-wrote
returns-in_default-clause-wrote g c = λ folder. memory_at_once _ _

pub returns-in_default-push_line-clause-wrote : goal.returns-in_default-push_line-clause-wrote
returns-in_default-push_line-clause-wrote g c = λ folder. memory_at_once _ _

pub returns-in_err-put-clause-wrote : goal.returns-in_err-put-clause-wrote
returns-in_err-put-clause-wrote g c = λ folder.
    first_stopped c.from_residual.ensures (seed_put c.args.problem.now c.args.seed c.in-Ok.numbers _ c.deref.ensures.value c.in-Ok-push_line.ensures c.new-text.ensures.items c.in-Ok.ensures (c.in_err-put.ensures folder))

pub returns-clause-wrote : goal.returns-clause-wrote
returns-clause-wrote g c = λ folder. first_wrote (seed_put c.args.problem.now c.args.seed c.in-Ok.numbers _ c.deref.ensures.value c.in-Ok-push_line.ensures c.new-text.ensures.items c.in-Ok.ensures (c.in_ok-put.ensures folder)) wrote_nothing
