use Rattle.std.proofs.Common.{◌≡◌, ◌+◌, ◌-◌, ◌<◌, ℕ, length, get_or, refl, subst, arith}
use Rattle.ngd_rewrite.proofs.ChainLaws.{AreLinked, none_linked, one_linked}
use Rattle.ngd_rewrite.proofs.endings.link_all.Goals as goal

pub loop-place-init : goal.loop-place-init
loop-place-init c = none_linked c.args.ends.now c.args.firsts.now c.args.nexts.now c.requires.firsts c.requires.nexts c.requires.no_first c.requires.no_next

pub loop-place-preserved : goal.loop-place-preserved
loop-place-preserved c =
    let l = c.loop-place in
    let ends = c.args.ends.now in
    let place = l.place - 1 in
    let test = c.loop-place-test.true in
    let within = l.invariant.within in
    let lt : place < length ends = omega (arith, within, test) in
    let known = c.requires.ends place lt in
    let before : l.place ≡ place + 1 = omega (arith, test) in
    one_linked ends l.firsts l.nexts c.set-in-loop-place.new.items c.set.new.items place (get_or ends place 0 - 1) lt known.0 known.1 refl
    c.set.ensures.here c.set.ensures.others c.set.ensures.count c.set-in-loop-place.ensures.here c.set-in-loop-place.ensures.others c.set-in-loop-place.ensures.count
    (subst (λ (n : ℕ). AreLinked ends l.firsts l.nexts n) before l.invariant)
