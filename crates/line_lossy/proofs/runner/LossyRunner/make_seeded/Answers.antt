use Rattle.std.proofs.Common.{◌≡◌, ◌≤◌, ◌+◌, inl, inr, sym, ap, ◌∙◌, arith}
use Rattle.abt_schedule.specs.Answers.{word_at}
use Rattle.line_lossy.proofs.SeedLoop.{seed_next, seed_stopped, seeds_written, seeds_made}
use Rattle.line_lossy.proofs.runner.LossyRunner.make_seeded.Goals as goal

pub returns-then-is_over-clause-wrote : goal.returns-then-is_over-clause-wrote
returns-then-is_over-clause-wrote g c =
    let i = c.loop-made.invariant in
    seeds_written (word_at c.args.words) c.args.events c.loop-made._made _ _ _ _ i.0 tt (inl (λ words h. sym c.if-is_over.true ∙ c.is_over.ensures.over words h))

pub returns-then-is_over-clause-made : goal.returns-then-is_over-clause-made
returns-then-is_over-clause-made g c =
    let i = c.loop-made.invariant in
    seeds_made (word_at c.args.words) c.args.events c.loop-made._made _ _ _ _ i.0 (inl (λ words h. sym c.if-is_over.true ∙ c.is_over.ensures.over words h))

pub returns-in_err-make_event-clause-wrote : goal.returns-in_err-make_event-clause-wrote
returns-in_err-make_event-clause-wrote g c =
    let i = c.loop-made.invariant in
    let k = c.loop-made._made in
    let here : k + 0 ≡ k = omega arith in
    let is = c.next_word-word.ensures.first ∙ i.1 0 ∙ ap (word_at c.args.words) here in
    seed_stopped (word_at c.args.words) c.args.events k _ _ _ _ i.0 c.next_word-word.result is c.loop-made-test.true (λ words h. sym c.if-is_over.false ∙ c.is_over.ensures.over words h) c.from_residual.result _ c.from_residual.ensures c.in_err-make_event.ensures.wrote

pub loop-made-preserved : goal.loop-made-preserved
loop-made-preserved g c =
    let i = c.loop-made.invariant in
    let k = c.loop-made._made in
    let here : k + 0 ≡ k = omega arith in
    let is = c.next_word-word.ensures.first ∙ i.1 0 ∙ ap (word_at c.args.words) here in
    let one = c.in_ok-make_event.ensures in (
      seed_next (word_at c.args.words) c.args.events k _ _ _ _ i.0 c.next_word-word.result is c.loop-made-test.true (λ words h. sym c.if-is_over.false ∙ c.is_over.ensures.over words h) tt _ _ one.wrote one.made one.same one.created,
      λ j. let e : k + (j + 1) ≡ k + 1 + j = omega arith in c.next_word-word.ensures.rest j ∙ i.1 (j + 1) ∙ ap (word_at c.args.words) e,
    )

pub returns-clause-wrote : goal.returns-clause-wrote
returns-clause-wrote g c =
    let i = c.loop-made.invariant in
    let done : c.args.events ≤ c.loop-made._made = let l = c.loop-made-test.false in omega (arith, l) in
    seeds_written (word_at c.args.words) c.args.events c.loop-made._made _ _ _ _ i.0 tt (inr done)

pub returns-clause-made : goal.returns-clause-made
returns-clause-made g c =
    let i = c.loop-made.invariant in
    let done : c.args.events ≤ c.loop-made._made = let l = c.loop-made-test.false in omega (arith, l) in
    seeds_made (word_at c.args.words) c.args.events c.loop-made._made _ _ _ _ i.0 (inr done)
