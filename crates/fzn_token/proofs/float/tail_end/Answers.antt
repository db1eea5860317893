use Rattle.fzn_token.proofs.FloatTails.{tail_alone_is, tail_short, tail_long, exponent_goes_on}
use Rattle.fzn_token.proofs.float.tail_end.Goals as goal

pub returns-in-None : goal.returns-in-None
returns-in-None c = tail_alone_is _ c.in-None.ensures c.exponent_end.ensures

pub returns-in-None-exponent_end : goal.returns-in-None-exponent_end
returns-in-None-exponent_end c = tail_short c.in-Some.ensures c.in-None-exponent_end.ensures

pub returns-in-Some-exponent_end : goal.returns-in-Some-exponent_end
returns-in-Some-exponent_end c = tail_long c.in-Some.ensures c.in-Some-exponent_end.ensures (exponent_goes_on c.in-Some-exponent_end.ensures.0)
