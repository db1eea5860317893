use Rattle.std.proofs.Common.{◌≡◌, ◌<◌, ◌∙◌, ap, length, get_or, None, Some, ℕ, Option, arith}
use Rattle.std.specs.Option.{option_or}
use Rattle.std.proofs.lemmas.List.{get_or_default}
use Rattle.abt_reason.proofs.RecheckLaws.{one_written}
use Rattle.abt_reason.proofs.kept.add_step.Goals as goal

pub returns-clause-added : goal.returns-clause-added
returns-clause-added c =
    let kept = c.args.kept.now.items in
    let within : c.in-Some.k < length kept = omega (arith, c.in-Some.ensures.within, c.requires.size) in
    let old : c.index.result.now ≡ get_or kept c.in-Some.k None = c.index.ensures ∙ get_or_default kept c.in-Some.k c.index.result.now None within in
    one_written c.args.domain.now kept c.args.item.now c.in-Some.k c.or.result (λ k. option_or (get_or kept k None) (Some c.args.item.now.step)) c.requires.rising c.requires.size c.in-Some.ensures.within c.in-Some.ensures.found
    (c.or.ensures ∙ ap (λ (o : Option ℕ). option_or o (Some c.args.item.now.step)) old)
