use Rattle.std.proofs.Common.{length}
use Rattle.abt_network.proofs.Posting.{HasPosted}
use Rattle.abt_network.proofs.post.post_each.Given as goal

abbrev pub invariant-loop-sent : goal.invariant-loop-sent
invariant-loop-sent l = HasPosted l.initial.links l.links l.from l.initial.out l.out l.initial.told.items l.told.items

abbrev pub decreases-loop-sent : goal.decreases-loop-sent
decreases-loop-sent l = length l.out
