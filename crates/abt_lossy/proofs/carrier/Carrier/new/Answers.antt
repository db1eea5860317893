use Rattle.std.proofs.Math.Path.{fun_ext}
use Rattle.abt_lossy.proofs.carrier.Carrier.new.Goals as goal

pub returns-clause-begins : goal.returns-clause-begins
returns-clause-begins c = λ p. record {
  handed_up = fun_ext (λ k. fun_ext (λ i. c.new.ensures.handed_up k i));
  acknowledged = fun_ext (λ k. fun_ext (λ i. c.new.ensures.acknowledged k i));
  pool = c.new-2.ensures;
}
