use Rattle.std.proofs.Common.{length, take, get_or, [], ◌∷◌, refl, ap, ◌∙◌, arith, add-one, take_all}
use Rattle.std.specs.Prelude.{sum_by}
use Rattle.std.proofs.lemmas.List.Sums.{sum_by-append}
use Rattle.std.proofs.lemmas.Option.{slice_get_within, get_or_from_slice_get}
use Rattle.std.proofs.Math.Seq.{take-suc}
use Rattle.line_export.proofs.clauses.ClauseSet.literals.Goals as goal

pub loop-place-init : goal.loop-place-init
loop-place-init c = record { count = refl; small = omega arith }

pub overflow_add-count : goal.overflow_add-count
overflow_add-count c =
    let small = c.loop-place.invariant.small in
    let few = c.len-place-end.ensures.small in
    let size = c.clause.type_inv.0 in
    omega (arith, small, few, size)

pub loop-place-preserved : goal.loop-place-preserved
loop-place-preserved c =
    let xs = c.args.self.now in
    let k = c.loop-place.place in
    let l = slice_get_within xs k c.clause.result.now c.clause.ensures in
    let at = ap length (get_or_from_slice_get xs k c.clause.result.now [] c.clause.ensures) in
    let more = ap (λ n. sum_by length (take n xs)) (add-one k) ∙ ap (sum_by length) (take-suc xs k [] l) ∙ sum_by-append length (take k xs) (get_or xs k [] ∷ []) in
    let count = c.loop-place.invariant.count in
    let small = c.loop-place.invariant.small in
    let size = c.clause.type_inv.0 in
    record { count = omega (arith, at, more, count); small = omega (arith, small, size) }

pub returns : goal.returns
returns c =
    let all = c.len-place-end.ensures.len in
    c.loop-place.invariant.count ∙ ap (sum_by length) (take_all c.loop-place.place c.args.self.now (omega (arith, all)))
