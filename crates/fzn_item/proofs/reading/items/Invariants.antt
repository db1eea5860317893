use Rattle.std.proofs.Common.{length}
use Rattle.fzn_item.specs.Items.{AreItemsTo}
use Rattle.fzn_item.proofs.reading.items.Given as goal

abbrev pub invariant-items : goal.invariant-items
invariant-items l = AreItemsTo l.text l.tokens l.list l.rest

abbrev pub decreases-items : goal.decreases-items
decreases-items l = length l.rest
