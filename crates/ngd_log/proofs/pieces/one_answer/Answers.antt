use Rattle.ngd_log.proofs.OneAnswer.{one_answer}
use Rattle.ngd_log.proofs.pieces.one_answer.Goals as goal

pub returns : goal.returns
returns c = one_answer
