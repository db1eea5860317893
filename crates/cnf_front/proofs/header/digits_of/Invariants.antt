use Rattle.std.proofs.Common.{◌≡◌, length}
use Rattle.cnf_front.specs.Formulas.{digits_of}
use Rattle.cnf_front.proofs.header.digits_of.Given as goal

abbrev pub invariant-loop-rest : goal.invariant-loop-rest
invariant-loop-rest l = digits_of l.number l.rest ≡ digits_of 0 l.bytes

abbrev pub decreases-loop-rest : goal.decreases-loop-rest
decreases-loop-rest l = length l.rest
