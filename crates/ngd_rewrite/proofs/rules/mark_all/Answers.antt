use Rattle.std.proofs.Common.{◌≡◌, ◌||◌, List, Some, slice_get, get_or, take, sym, ap, ◌∙◌, arith}
use Rattle.std.proofs.lemmas.Option.{slice_get-get_or}
use Rattle.dcsp_defs.specs.declared.Step.{Step}
use Rattle.ngd_store.proofs.Words.{take_more}
use Rattle.ngd_check.specs.Places.{no_step}
use Rattle.ngd_rewrite.specs.Needed.{cites_rule, is_cited}
use Rattle.ngd_rewrite.specs.Marks.{has_mark}
use Rattle.ngd_rewrite.proofs.Limiting.{cited_at}
use Rattle.ngd_rewrite.proofs.Marking.{any_more}
use Rattle.ngd_rewrite.proofs.rules.mark_all.Goals as goal

pub mark_cited-requires : goal.mark_cited-requires
mark_cited-requires c rule t =
    let steps = c.args.steps.now in
    let place = c.loop-place.place in
    let step = get_or steps place no_step in
    let there : slice_get steps place ≡ Some step = slice_get-get_or steps place no_step (omega (arith, c.len-place-end.ensures)) in
    let l = c.requires.some rule (cited_at steps place step rule there (sym (c.old_reasons.ensures rule) ∙ t)) in
    omega (arith, l, c.loop-place.invariant.as_many)

pub loop-place-preserved : goal.loop-place-preserved
loop-place-preserved c =
    let steps = c.args.steps.now in
    let place = c.loop-place.place in
    let step = get_or steps place no_step in
    record {
      as_many = c.mark_cited.ensures.as_many ∙ c.loop-place.invariant.as_many;
      marked = λ rule.
          c.mark_cited.ensures.marked rule
          ∙ (ap (λ b. has_mark c.loop-place.cited rule || b) (c.old_reasons.ensures rule)
          ∙ (ap (λ b. b || cites_rule step.reasons rule) (c.loop-place.invariant.marked rule)
          ∙ (sym (any_more (λ (s : Step). cites_rule s.reasons rule) (take place steps) step)
          ∙ sym (ap (λ (xs : List Step). is_cited xs rule) (take_more steps place no_step (omega (arith, c.len-place-end.ensures)))))));
    }
