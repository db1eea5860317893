use Rattle.std.proofs.Common.{sym, ◌∙◌, ap, arith, inl, inr}
use Rattle.std.proofs.lemmas.Bool.{cases_eq}
use Rattle.abt_defs.specs.Network.{is_false}
use Rattle.dcsp_rule.specs.Problems.{constraint_at}
use Rattle.abt_network.proofs.FirstFalse.{nothing_known, is_first, is_none}
use Rattle.abt_network.proofs.begin.first_false.Goals as goal

pub returns-then-violated_by : goal.returns-then-violated_by
returns-then-violated_by c =
    let p = c.args.problem.now in
    let rule = c.loop-rule.rule in
    let a = c.loop-rule-test.true in
    let b = c.rules-rule-end.ensures.rules in
    is_first p rule c.loop-rule.invariant (omega (arith, a, b)) (sym (nothing_known (constraint_at p rule)) ∙ sym (c.if-violated_by.ensures.known (λ var v l g. cc)))

pub loop-rule-preserved : goal.loop-rule-preserved
loop-rule-preserved c j l =
    let p = c.args.problem.now in
    let rule = c.loop-rule.rule in
    elim (cases_eq j rule) [
      | inl e ↦ ap (λ k. is_false (constraint_at p k)) e ∙ sym (nothing_known (constraint_at p rule)) ∙ sym (c.if-violated_by.ensures.known (λ var v l g. cc))
      | inr ne ↦ c.loop-rule.invariant j (omega arith)
    ]

pub returns : goal.returns
returns c =
    let a = c.loop-rule-test.false in
    let b = c.rules-rule-end.ensures.rules in
    is_none c.args.problem.now c.loop-rule.rule (omega (arith, a, b)) c.loop-rule.invariant
