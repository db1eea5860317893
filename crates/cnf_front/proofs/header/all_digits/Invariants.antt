use Rattle.std.proofs.Common.{◌≡◌, length}
use Rattle.cnf_front.specs.Formulas.{all_digits}
use Rattle.cnf_front.proofs.header.all_digits.Given as goal

abbrev pub invariant-loop-rest : goal.invariant-loop-rest
invariant-loop-rest l = all_digits l.rest ≡ all_digits l.bytes

abbrev pub decreases-loop-rest : goal.decreases-loop-rest
decreases-loop-rest l = length l.rest
