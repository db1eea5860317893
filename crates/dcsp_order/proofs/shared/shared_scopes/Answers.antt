use Rattle.std.proofs.Common.{◌∙◌, arith, length}
use Rattle.dcsp_rule.specs.Problems.{csp_of, constraint_at, constraint_of}
use Rattle.std.proofs.lemmas.List.{length-map}
use Rattle.dcsp_order.proofs.Sharing.{shared_more, shared_whole}
use Rattle.dcsp_order.proofs.shared.shared_scopes.Goals as goal

pub loop-rule-preserved : goal.loop-rule-preserved
loop-rule-preserved c =
    let p = c.args.problem.now in
    let rule = c.loop-rule.rule in
    let i = c.loop-rule.invariant in
    let there = c.rules-rule-end.ensures.constraints rule (omega (arith, c.loop-rule-test.true, c.rules-rule-end.ensures.rules)) in
    record {
      as_many = c.set_rows.ensures.as_many ∙ i.as_many;
      each = shared_more (csp_of p) c.vars-width.result rule c.scope.result.now (constraint_at p rule) c.loop-rule.flags.items c.set_rows.new.flags.items there c.scope.ensures.scope i.as_many i.each c.set_rows.ensures;
    }

pub returns : goal.returns
returns c =
    let p = c.args.problem.now in
    let i = c.loop-rule.invariant in
    let rules = length-map p.rules (constraint_of (length p.domains)) in
    shared_whole (csp_of p) c.vars-width.result c.loop-rule.rule c.loop-rule.flags.items c.denotes_csp.ensures.csp c.vars-width.ensures.vars
    (omega (arith, c.loop-rule-test.false, c.rules-rule-end.ensures.rules, rules)) i.as_many i.each
