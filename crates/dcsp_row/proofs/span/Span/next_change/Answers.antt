use Rattle.std.proofs.Common.{◌≡◌, ◌∙◌, sym, arith, inl, inr}
use Rattle.std.proofs.lemmas.Bool.{cases_lt}
use Rattle.dcsp_row.specs.Spans.{is_within}
use Rattle.dcsp_row.proofs.SpanLaws.{alike, steady}
use Rattle.dcsp_row.proofs.span.Span.next_change.Goals as goal

pub loop-at-preserved : goal.loop-at-preserved
loop-at-preserved c =
    let one = c.args.self in
    let other = c.args.other in
    let at = c.loop-at.at in
    let end = c.cut-at.result in
    let here : is_within one at ≡ is_within other at = sym c.has.ensures ∙ alike c.has.result c.has-in-loop-at.result c.if-has.false ∙ c.has-in-loop-at.ensures in
    record {
      after = omega (arith, c.loop-at.invariant.after, c.cut-at.ensures.later);
      same = λ k l m. elim (cases_lt k at) [
        | inl before ↦ c.loop-at.invariant.same k l before
        | inr past ↦
            steady one at k end past m
            (λ before. let h = c.cut.ensures.cut before in omega (arith, h, c.cut-end.ensures.most, c.cut-in-loop-at.ensures.most, c.cut-at.ensures.most))
            (λ before. let h = c.cut-end.ensures.cut before in omega (arith, h, c.cut-in-loop-at.ensures.most, c.cut-at.ensures.most))
            ∙ here
            ∙ sym (steady other at k end past m
            (λ before. let h = c.cut-in-loop-at.ensures.cut before in omega (arith, h, c.cut-at.ensures.most))
            c.cut-at.ensures.cut)
      ];
    }
