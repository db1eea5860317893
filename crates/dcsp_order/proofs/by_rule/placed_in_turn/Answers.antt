use Rattle.std.proofs.Common.{◌<◌, ◌+◌, ◌∙◌, None, Some, length, sym, ap, subst, arith}
use Rattle.std.proofs.lemmas.List.{length_push}
use Rattle.dcsp_defs.specs.Csp.{count}
use Rattle.dcsp_rule.specs.Problems.{csp_of}
use Rattle.dcsp_order.specs.Turns.{IsNext}
use Rattle.dcsp_order.proofs.Placing.{IsPartly, counts_more, few_links, next_before, next_new, next_stands, partly_more, partly_whole, some_next}
use Rattle.dcsp_order.proofs.by_rule.placed_in_turn.Goals as goal

pub unreachable-requires : goal.unreachable-requires
unreachable-requires c =
    let p = csp_of c.args.problem.now in
    let i = c.loop-place.invariant in
    let none : IsNext c.loop-place.left.items c.loop-place.linked.items c.args.weights.now (count p) None =
    next_stands c.args.weights.now c.deref.ensures.value c.deref-in-loop-place.ensures.value (ap length c.deref.ensures.value ∙ i.counts.left_many) c.in_default.is c.next_of.ensures in
    some_next c.args.rule p c.loop-place.numbers.items c.loop-place.left.items c.loop-place.linked.items c.args.weights.now i.counts c.requires.weights i.partly.some
    (omega (arith, i.count, c.loop-place-test.true, c.vars-vars.ensures.vars)) none

pub count_links-requires-clause-small : goal.count_links-requires-clause-small
count_links-requires-clause-small c =
    λ k l.
    let p = csp_of c.args.problem.now in
    let i = c.loop-place.invariant in
    let low : k < count p = omega (arith, l, i.counts.linked_many) in
    let is = i.counts.linked_are k low in
    let few = few_links c.args.rule p c.loop-place.numbers.items k in
    let most = c.vars-vars.ensures.problem.few_variables in
    omega (arith, is, few, most, i.count, c.loop-place-test.true, c.vars-vars.ensures.vars)

pub loop-place-preserved : goal.loop-place-preserved
loop-place-preserved c =
    let p = csp_of c.args.problem.now in
    let i = c.loop-place.invariant in
    let numbers = c.loop-place.numbers.items in
    let number = c.in-Some.number in
    let next : IsNext c.loop-place.left.items c.loop-place.linked.items c.args.weights.now (count p) (Some number) =
    next_stands c.args.weights.now c.deref.ensures.value c.deref-in-loop-place.ensures.value (ap length c.deref.ensures.value ∙ i.counts.left_many) c.in-Some.is c.next_of.ensures in
    let new = next_new c.args.rule p numbers c.loop-place.left.items c.loop-place.linked.items c.args.weights.now i.counts c.requires.weights number next in
    let before = next_before c.args.rule p numbers c.loop-place.left.items c.loop-place.linked.items c.args.weights.now i.counts c.requires.weights number next in
    record {
      partly = subst (IsPartly c.args.rule p) (sym c.in_ok-push.ensures.items) (partly_more c.args.rule p numbers number i.partly next.0 new before);
      count = ap length c.in_ok-push.ensures.items ∙ length_push numbers number ∙ ap (λ z. z + 1) i.count;
      counts = counts_more c.args.rule p numbers c.push.new.self.items c.loop-place.left.items c.loop-place.linked.items c.count_links.new.linked.items c.args.shared.now number i.counts c.requires.shared next.0 c.in_ok-push.ensures.items
          c.count_links.ensures;
    }

pub returns : goal.returns
returns c =
    let p = csp_of c.args.problem.now in
    let i = c.loop-place.invariant in
    partly_whole c.args.rule p c.loop-place.numbers.items i.partly (omega (arith, i.count, c.loop-place-test.false, c.loop-place.auto._place-end, c.vars-vars.ensures.vars))
