use Rattle.line_lossy.specs.Runners.{asked_by}
use Rattle.line_lossy.proofs.Endings.{before_stopped, answer_stopped, answered, text_is, has_values}
use Rattle.line_lossy.proofs.line.run_problem.Goals as goal

pub returns-in_err-ended-clause-wrote : goal.returns-in_err-ended-clause-wrote
returns-in_err-ended-clause-wrote g c =
    let asked = asked_by c.args.model c.args.line in
    before_stopped asked _ c.from_residual.ensures (c.in_err-ended.ensures.wrote (g.S.Sink.stream c.args.outside.now.out))

pub tell-requires : goal.tell-requires
tell-requires g c =
    let asked = asked_by c.args.model c.args.line in
    has_values asked c.in_ok-ended.ended c.in_ok-ended.ensures.gives c.requires.problem c.requires.order

pub returns-in_err-tell-clause-wrote : goal.returns-in_err-tell-clause-wrote
returns-in_err-tell-clause-wrote g c =
    let asked = asked_by c.args.model c.args.line in
    answer_stopped asked _ (text_is asked c.in_ok-ended.ended c.in_ok-ended.ensures.gives) _ c.from_residual-in_err-tell.ensures (c.in_ok-ended.ensures.wrote (g.S.Sink.stream c.args.outside.now.out)) (c.in_err-tell.ensures _)

pub returns-clause-wrote : goal.returns-clause-wrote
returns-clause-wrote g c =
    let asked = asked_by c.args.model c.args.line in
    answered asked _ (text_is asked c.in_ok-ended.ended c.in_ok-ended.ensures.gives) _ (c.in_ok-ended.ensures.wrote (g.S.Sink.stream c.args.outside.now.out)) (c.in_ok-tell.ensures _)
