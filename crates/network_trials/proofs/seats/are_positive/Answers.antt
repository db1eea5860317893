use Rattle.std.proofs.Common.{◌<◌, arith}
use Rattle.std.proofs.lemmas.List.{take_all}
use Rattle.std.proofs.lemmas.List.Elements.{All-more}
use Rattle.network_trials.proofs.seats.are_positive.Goals as goal

pub loop-stamp-preserved : goal.loop-stamp-preserved
loop-stamp-preserved c =
    All-more (λ stamp. 0 < stamp) c.args.stamps.now c.loop-stamp.stamp-index 0 (omega arith) c.loop-stamp.invariant (omega (arith, c.if-stamp-eq0.false))

pub returns : goal.returns
returns c = λ _. rw (take_all c.loop-stamp.stamp-index c.args.stamps.now (omega arith)) at c.loop-stamp.invariant
