use Rattle.std.proofs.Common.{◌∙◌, ◌++◌, ◌∷◌, [], List, map, take, sym, ap, subst, add-one}
use Rattle.std.specs.Prelude.{All}
use Rattle.dcsp_defs.proofs.Lists.{get-In}
use Rattle.dcsp_rule.specs.declared.rule.Rule.{Rule}
use Rattle.dcsp_rule.specs.Lent.{lent_rule}
use Rattle.dcsp_rule.specs.Rules.{terms_of, IsTermOf}
use Rattle.dcsp_order.specs.Under.{rule_under}
use Rattle.dcsp_order.proofs.Mapped.{map_more}
use Rattle.dcsp_order.proofs.Rules.{rule_known}
use Rattle.dcsp_order.proofs.order.Order.rules_under.Goals as goal

pub rule_under-requires : goal.rule_under-requires
rule_under-requires c =
    let there = get-In c.args.problem.now.rules c.loop-number.number (lent_rule c.rule.result) c.rule.ensures in
    let known = rule_known c.args.problem.now c.denotes_csp.ensures.problem (lent_rule c.rule.result) there in
    subst (λ n. All (IsTermOf n) (terms_of (lent_rule c.rule.result))) (sym c.requires) known.known

pub loop-number-preserved : goal.loop-number-preserved
loop-number-preserved c =
    let f = rule_under c.args.self.now in
    let rules : List Rule = c.args.problem.now.rules in
    c.in_ok-push.ensures.ok
    ∙ ap (λ (z : Rule). c.loop-number.rules ++ z ∷ []) c.lent.ensures
    ∙ ap (λ (z : List Rule). z ++ c.in_ok-rule.rule ∷ []) c.loop-number.invariant
    ∙ ap (λ (z : Rule). map f (take c.loop-number.number rules) ++ z ∷ []) c.in_ok-rule.ensures
    ∙ sym (map_more f rules c.loop-number.number (lent_rule c.rule.result) c.rule.ensures)
    ∙ ap (λ n. map f (take n rules)) (sym (add-one c.loop-number.number))
