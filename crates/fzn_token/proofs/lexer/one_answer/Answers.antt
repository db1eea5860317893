use Rattle.fzn_token.proofs.OneAnswer.{one_answer_lem}
use Rattle.fzn_token.proofs.lexer.one_answer.Goals as goal

pub returns : goal.returns
returns c = one_answer_lem
