use Rattle.std.proofs.Common.{◌∙◌, ◌++◌, ◌∷◌, [], List, map, take, sym, ap, add-one}
use Rattle.dcsp_rule.specs.declared.output.Output.{Output}
use Rattle.dcsp_order.specs.Under.{output_under}
use Rattle.dcsp_order.proofs.Mapped.{map_more}
use Rattle.dcsp_order.proofs.order.Order.outputs_under.Goals as goal

pub loop-place-preserved : goal.loop-place-preserved
loop-place-preserved c =
    let f = output_under c.args.self.now in
    let outputs : List Output = c.args.problem.now.outputs in
    c.in_ok-push.ensures.items
    ∙ ap (λ (z : List Output). z ++ c.in_ok-output.output ∷ []) c.loop-place.invariant
    ∙ ap (λ (z : Output). map f (take c.loop-place.place outputs) ++ z ∷ []) c.in_ok-output.ensures
    ∙ sym (map_more f outputs c.loop-place.place c.output.result.now c.output.ensures)
    ∙ ap (λ n. map f (take n outputs)) (sym (add-one c.loop-place.place))
