use Rattle.dcsp_order.proofs.TextAnswered.{one_answer}
use Rattle.dcsp_order.proofs.text.one_answer.Goals as goal

pub returns : goal.returns
returns c = one_answer
