use Rattle.std.proofs.Common.{◌≡◌, ℕ, ◌+◌, ◌∷◌, [], ◌++◌, List, length, sym, subst, arith}
use Rattle.ngd_rewrite.specs.Endings.{AreEnds}
use Rattle.ngd_rewrite.proofs.EndLaws.{ends_more}
use Rattle.ngd_rewrite.proofs.ends.take_step.Goals as goal

pub returns : goal.returns
returns c = λ steps step are same.
    let before = c.args.ends.now.items in
    let counted = c.len.ensures in
    let number : c.len.result + 1 ≡ length before + 1 = omega (arith, counted) in
    subst (λ (ends : List ℕ). AreEnds (steps ++ step ∷ []) ends) (sym c.in-Ok.ensures.items)
    (ends_more steps step c.args.reasons.now (c.len.result + 1) before c.move_all.new.ends.items same number are c.move_all.ensures.count c.move_all.ensures.each)
