use Rattle.std.proofs.Common.{rules, ◌≡◌, ◌+◌, ◌∙◌, cond, Bool, ap, sym, to_z-of_z, w64, SFits, arith}
use Rattle.abt_optimum.proofs.Ranks.{counted_more}
use Rattle.abt_optimum.proofs.halves.rank.Goals as goal
use Rattle.abt_optimum.proofs.halves.rank.Goals.{then-is_better, else-is_better}

pub loop-place-preserved : goal.loop-place-preserved
loop-place-preserved c =
    let left : SFits w64 c.args.value = search rules in
    let right : SFits w64 c.value.result = search rules in
    let test = simp to_z-of_z at c.is_better.ensures in
    let before = simp to_z-of_z at c.loop-place.invariant in
    let none : c.loop-place.count ≡ c.loop-place.count + 0 = omega arith in
    let count : c.if-is_better.count ≡ c.loop-place.count + cond c.is_better.result 1 0 = elim c.if-is_better.branch [
      | then-is_better w ↦ w.count-is ∙ ap (λ (b : Bool). c.loop-place.count + cond b 1 0) (sym w.if-is_better.true)
      | else-is_better w ↦ w.count-is ∙ none ∙ sym (ap (λ (b : Bool). c.loop-place.count + cond b 1 0) w.if-is_better.false)
    ] in
    rw (to_z-of_z left) (counted_more c.args.aim c.args.domain.now c.args.value c.value.result c.loop-place.place c.loop-place.count c.if-is_better.count c.is_better.result c.value.ensures before.0 before.1 test count)
