use Rattle.fzn_item.proofs.OneAnswer.{one_answer_law}
use Rattle.fzn_item.proofs.reading.one_answer.Goals as goal

pub returns : goal.returns
returns c = one_answer_law
