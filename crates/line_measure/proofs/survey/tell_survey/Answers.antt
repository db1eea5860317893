use Rattle.std.proofs.Common.{refl}
use Rattle.dcsp_script.proofs.Lines.{first_stopped}
use Rattle.line_measure.proofs.SurveyLaws.{all_put, head_put, line_put, line_stopped, worst_more}
use Rattle.line_measure.proofs.survey.tell_survey.Goals as goal

pub returns-in_err-put-clause-wrote : goal.returns-in_err-put-clause-wrote
returns-in_err-put-clause-wrote g c = λ folder. first_stopped c.from_residual.ensures (c.in_err-put.ensures folder)

pub loop-number-init : goal.loop-number-init
loop-number-init g c = record {
  left = λ folder. head_put c.args.problem.now c.args.line.from c.args.line.count (c.in_ok-put.ensures folder);
  worst = refl;
}

pub returns-in_err-end-clause-wrote : goal.returns-in_err-end-clause-wrote
returns-in_err-end-clause-wrote g c = λ folder.
    line_stopped c.args.problem.now c.args.line.from c.args.line.count c.loop-number.number c.from_residual-in_err-end.result c.from_residual-in_err-end.ensures c.loop-number-test.true (c.loop-number.invariant.left folder) (c.in_err-end.ensures.wrote folder)

pub loop-number-preserved : goal.loop-number-preserved
loop-number-preserved g c = record {
  left = λ folder. line_put c.args.problem.now c.args.line.from c.args.line.count c.loop-number.number c.loop-number-test.true (c.loop-number.invariant.left folder) (c.in_ok-end.ensures.wrote folder);
  worst = worst_more c.args.problem.now c.args.line.from c.args.line.count c.loop-number.number c.loop-number.worst c.in_ok-end.end c.worse-worst.result c.loop-number.invariant.worst c.in_ok-end.ensures.end c.worse-worst.ensures;
}

pub returns-clause-wrote : goal.returns-clause-wrote
returns-clause-wrote g c = λ folder. all_put c.args.problem.now c.args.line.from c.args.line.count _ c.loop-number.number c.loop-number-test.false (c.loop-number.invariant.left folder)
