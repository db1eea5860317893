use Rattle.std.proofs.Common.{subst, arith, ◌<◌, length}
use Rattle.rup_check.specs.Verdicts.{FirstBad}
use Rattle.rup_check.specs.Assignments.{flipped}
use Rattle.rup_check.proofs.check.verdict_of.Goals as goal

pub overflow_add-result : goal.overflow_add-result
overflow_add-result c =
    let b = subst (λ w. FirstBad flipped c.args.formula.now c.args.proof.now w) c.in-Some.is c.requires.bad in
    let l : c.in-Some.number < length c.args.proof.now = b.in_range in
    omega arith
