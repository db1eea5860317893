use Rattle.std.proofs.Common.{◌≤◌, inl, inr, sym, ◌∙◌, arith}
use Rattle.line_lossy.proofs.CalmLoop.{calm_next, calm_stopped, calm_written, calm_made}
use Rattle.line_lossy.proofs.runner.LossyRunner.make_calm.Goals as goal

pub returns-then-is_over-clause-wrote : goal.returns-then-is_over-clause-wrote
returns-then-is_over-clause-wrote g c = λ first out has.
    let i = c.loop-made.invariant first has in
    calm_written first c.args.most c.loop-made._made _ _ _ _ i tt (inl (λ words h. sym c.if-is_over.true ∙ c.is_over.ensures.over words h)) out

pub returns-then-is_over-clause-made : goal.returns-then-is_over-clause-made
returns-then-is_over-clause-made g c = λ first has.
    let i = c.loop-made.invariant first has in
    calm_made first c.args.most c.loop-made._made _ _ _ _ i (inl (λ words h. sym c.if-is_over.true ∙ c.is_over.ensures.over words h))

pub returns-in_err-make_event-clause-wrote : goal.returns-in_err-make_event-clause-wrote
returns-in_err-make_event-clause-wrote g c = λ first out has.
    let i = c.loop-made.invariant first has in
    calm_stopped first c.args.most c.loop-made._made _ _ _ _ i c.next_calm-word.result c.next_calm-word.ensures c.loop-made-test.true (λ words h. sym c.if-is_over.false ∙ c.is_over.ensures.over words h) c.from_residual.result _ c.from_residual.ensures c.in_err-make_event.ensures.wrote out

pub loop-made-preserved : goal.loop-made-preserved
loop-made-preserved g c = λ first has.
    let i = c.loop-made.invariant first has in
    let one = c.in_ok-make_event.ensures in
    calm_next first c.args.most c.loop-made._made _ _ _ _ i c.next_calm-word.result c.next_calm-word.ensures c.loop-made-test.true (λ words h. sym c.if-is_over.false ∙ c.is_over.ensures.over words h) tt _ _ one.wrote one.made one.same one.created

pub returns-clause-wrote : goal.returns-clause-wrote
returns-clause-wrote g c = λ first out has.
    let i = c.loop-made.invariant first has in
    let done : c.args.most ≤ c.loop-made._made = let l = c.loop-made-test.false in omega (arith, l) in
    calm_written first c.args.most c.loop-made._made _ _ _ _ i tt (inr done) out

pub returns-clause-made : goal.returns-clause-made
returns-clause-made g c = λ first has.
    let i = c.loop-made.invariant first has in
    let done : c.args.most ≤ c.loop-made._made = let l = c.loop-made-test.false in omega (arith, l) in
    calm_made first c.args.most c.loop-made._made _ _ _ _ i (inr done)
