use Rattle.fzn_token.proofs.PlainNumbers.{plain_longest}
use Rattle.fzn_token.proofs.number.signed_token.Goals as goal

pub valued_token-requires-clause-longest : goal.valued_token-requires-clause-longest
valued_token-requires-clause-longest c = plain_longest c.args.text.now c.args.sign.at c.args.start c.in-Some.end c.in-Some.n c.args.sign.minus c.requires.sign c.in-Some.ensures
