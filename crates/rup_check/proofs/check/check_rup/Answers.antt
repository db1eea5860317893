use Rattle.std.proofs.Common.{subst}
use Rattle.std.specs.Prelude.{neg_ℤ}
use Rattle.rup_check.specs.Verdicts.{IsVerdict}
use Rattle.rup_check.specs.Literals.{IsUnsatisfiable}
use Rattle.rup_check.proofs.VerdictLaws.{numbered, verdict_numbered, verified_unsatisfiable}
use Rattle.rup_check.proofs.check.check_rup.Goals as goal

pub returns-clause-exact : goal.returns-clause-exact
returns-clause-exact c =
    subst (λ f. IsVerdict neg_ℤ f c.args.proof.now c.in_ok-answer.answer) c.formula.view_is
    (subst (λ p. IsVerdict neg_ℤ (numbered c.formula.inside.places) p c.in_ok-answer.answer) c.proof.view_is
    (verdict_numbered c.formula.inside.places c.proof.inside.places c.formula.invariant.places c.proof.invariant.places c.in_ok-answer.answer c.in_ok-answer.ensures))

pub returns-clause-refutes : goal.returns-clause-refutes
returns-clause-refutes c = λ verified.
    subst IsUnsatisfiable c.formula.view_is
    (verified_unsatisfiable c.formula.inside.places c.proof.inside.places c.formula.invariant.places c.proof.invariant.places c.in_ok-answer.answer c.in_ok-answer.ensures verified)
