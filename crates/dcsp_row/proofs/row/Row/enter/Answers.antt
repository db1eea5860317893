use Rattle.std.proofs.Common.{◌≡◌, ◌<◌, ◌*◌, ◌+◌, ◌/◌, arith, length, refl, subst}
use Rattle.dcsp_row.specs.Walks.{NoneBetween}
use Rattle.dcsp_row.proofs.WalkLaws.{none_in_block, none_joined}
use Rattle.dcsp_row.proofs.row.Row.enter.Goals as goal

pub returns-then-len-walk-le-BLOCK-clause-end : goal.returns-then-len-walk-le-BLOCK-clause-end
returns-then-len-walk-le-BLOCK-clause-end c = λ ended k after before within.
    let end : k < c.args.walk.now.first + 64 = omega (arith, c.if-len-walk-le-BLOCK.true, c.len.ensures, within, c.requires.near) in
    none_in_block c.args.self.now c.args.walk.now c.requires (omega (arith, c.if-walk-ne0.false)) k after end within

pub returns-in-None-clause-end : goal.returns-in-None-clause-end
returns-in-None-clause-end c = λ ended.
    let row = c.args.self.now in
    let walk = c.args.walk.now in
    let next : (walk.first / 64 + 1) * 64 ≡ walk.first + 64 = omega (arith, c.requires.first) in
    none_joined row walk.from (walk.first + 64) (length row) (none_in_block row walk c.requires (omega (arith, c.if-walk-ne0.false))) (subst (λ n. NoneBetween row n (length row)) next (c.in-None.ensures.end refl))

pub returns-in-Some-clause-before : goal.returns-in-Some-clause-before
returns-in-Some-clause-before c =
    let row = c.args.self.now in
    let walk = c.args.walk.now in
    let next : (walk.first / 64 + 1) * 64 ≡ walk.first + 64 = omega (arith, c.requires.first) in
    none_joined row walk.from (walk.first + 64) (c.in-Some.block * 64) (none_in_block row walk c.requires (omega (arith, c.if-walk-ne0.false))) (subst (λ n. NoneBetween row n (c.in-Some.block * 64)) next c.in-Some.ensures.before)
