use Rattle.std.proofs.Common.{sym, ◌∙◌, arith, ltb-true}
use Rattle.dcsp_rule.specs.Problems.{csp_of}
use Rattle.ngd_check.proofs.Parts.{within, as_many, violated_alone, alone_violated}
use Rattle.ngd_check.proofs.step.is_false_alone.Goals as goal

pub returns-then-number-rules : goal.returns-then-number-rules
returns-then-number-rules c =
    let there = c.rules.ensures.constraints c.args.number (omega (arith, c.rules.ensures.rules)) in
    let said = c.violated_by.ensures.known (λ k w l e. absurd cc) in
    (λ t. violated_alone (csp_of c.args.problem.now) c.args.number _ there (sym said ∙ t), λ h. said ∙ alone_violated (csp_of c.args.problem.now) c.args.number _ there h)

pub returns-else-number-rules : goal.returns-else-number-rules
returns-else-number-rules c = (
  λ t. absurd (omega (arith, ltb-true _ _ t)),
  λ h. absurd (let l = within (csp_of c.args.problem.now).constraints c.args.number h.constraint h.there in omega (arith, c.rules.ensures.rules, as_many c.args.problem.now)),
)
