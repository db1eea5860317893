use Rattle.std.proofs.Common.{◌≡◌, ◌++◌, map, ap, subst, ◌∙◌}
use Rattle.std.specs.Prelude.{neg_ℤ}
use Rattle.rup_check.specs.Literals.{IsUnsatisfiable}
use Rattle.rup_check.specs.Verdicts.{IsVerdict}
use Rattle.rup_check.specs.declared.check.Rup.TheVariants.{Verified}
use Rattle.cnf_front.specs.Clauses.{rule_clause}
use Rattle.line_cnf.proofs.rup.check.Goals as goal

pub returns-in-Ok-check_rup-clause-verdict : goal.returns-in-Ok-check_rup-clause-verdict
returns-in-Ok-check_rup-clause-verdict c =
    subst (λ f. IsVerdict neg_ℤ f c.args.proof.now c.in-Ok-check_rup.answer) (c.in-Ok.ensures.ok ∙ ap (λ b. b ++ map rule_clause c.args.problem.now.rules) c.new-formula.ensures) c.in-Ok-check_rup.ensures.exact

pub returns-in-Ok-check_rup-clause-refutes : goal.returns-in-Ok-check_rup-clause-refutes
returns-in-Ok-check_rup-clause-refutes c =
    subst (λ f. c.in-Ok-check_rup.answer ≡ Verified → IsUnsatisfiable f) (c.in-Ok.ensures.ok ∙ ap (λ b. b ++ map rule_clause c.args.problem.now.rules) c.new-formula.ensures) c.in-Ok-check_rup.ensures.refutes
