use Rattle.law_inputs.proofs.Problems.{texts_have_answers}
use Rattle.law_inputs.proofs.texts_have_answers.Goals as goal

pub returns : goal.returns
returns c = texts_have_answers
