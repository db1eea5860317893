use Rattle.std.proofs.Common.{◌↔◌, IsTrue, sym, subst, arith, ltb-true}
use Rattle.dcsp_defs.specs.declared.Reason.{Reason}
use Rattle.dcsp_defs.specs.Csp.{with_value}
use Rattle.dcsp_rule.specs.Problems.{csp_of}
use Rattle.ngd_check.specs.Citing.{IsReasonUnder}
use Rattle.ngd_check.proofs.Parts.{within, as_many, false_rule}
use Rattle.ngd_check.proofs.step.is_reason.Goals as goal

pub returns-then-number-rules : goal.returns-then-number-rules
returns-then-number-rules g c =
    let known = with_value c.args.given.now.var c.args.given.now.value (g.L.Lookup.values c.args.given.now.known.now) in
    let there = c.rules.ensures.constraints c.in-Rule.number (omega (arith, c.rules.ensures.rules)) in
    subst (λ (r : Reason). IsTrue c.violated_within.result ↔ IsReasonUnder (csp_of c.args.problem.now) (g.C.Cites.cited c.args.nogoods.now) known r) (sym c.in-Rule.is) (false_rule (csp_of c.args.problem.now) known c.in-Rule.number _ c.violated_within.result there (c.violated_within.ensures))

pub returns-else-number-rules : goal.returns-else-number-rules
returns-else-number-rules g c =
    let known = with_value c.args.given.now.var c.args.given.now.value (g.L.Lookup.values c.args.given.now.known.now) in (
      λ t. absurd (omega (arith, ltb-true _ _ t)),
      λ h.
          let f = subst (λ (r : Reason). IsReasonUnder (csp_of c.args.problem.now) (g.C.Cites.cited c.args.nogoods.now) known r) c.in-Rule.is h in
          absurd (let l = within (csp_of c.args.problem.now).constraints c.in-Rule.number f.0 f.1 in omega (arith, c.rules.ensures.rules, as_many c.args.problem.now)),
    )
