use Rattle.std.proofs.Common.{refl, arith}
use Rattle.fzn_token.proofs.FloatTails.{exponent_found, exponent_missing}
use Rattle.fzn_token.proofs.float.exponent_end.Goals as goal

pub returns-then-start-end : goal.returns-then-start-end
returns-then-start-end c = let e = c.exponent_digits-start.ensures in exponent_found (omega arith) (c.if-is_exponent_letter.ensures.0 refl) e.sign e.only c.digits_end-end.ensures c.if-start-end.true

pub returns-else-start-end : goal.returns-else-start-end
returns-else-start-end c = exponent_missing c.exponent_digits-start.ensures.only c.digits_end-end.ensures c.if-start-end.false
