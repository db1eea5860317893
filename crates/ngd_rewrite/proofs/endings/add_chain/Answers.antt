use Rattle.std.proofs.Common.{◌++◌}
use Rattle.ngd_rewrite.proofs.ChainLaws.{rest_more, rest_done}
use Rattle.ngd_rewrite.proofs.endings.add_chain.Goals as goal

pub loop-place-preserved : goal.loop-place-preserved
loop-place-preserved c = λ numbers f.
    let l = c.loop-place in
    rest_more c.args.nexts.now l.place l.into.items c.add_number.new.into.items (c.args.into.now.items ++ numbers) c.loop-place-test.true c.in_ok-add_number.ensures (l.invariant numbers f)

pub returns : goal.returns
returns c = λ numbers f.
    let l = c.loop-place in
    rest_done c.args.nexts.now l.place l.into.items (c.args.into.now.items ++ numbers) c.loop-place-test.false (l.invariant numbers f)
