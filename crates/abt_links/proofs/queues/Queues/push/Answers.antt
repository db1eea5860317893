use Rattle.std.proofs.Common.{subst}
use Rattle.abt_links.specs.Chains.{Cells, IsAdded}
use Rattle.abt_links.proofs.Adds.{push-sound, push-view}
use Rattle.abt_links.proofs.queues.Queues.push.Goals as goal

pub invariant_of-self-2 : goal.invariant_of-self-2
invariant_of-self-2 c =
    push-sound c.self.inside.cells.slots c.add.new.cells.slots c.self.inside.ends.items c.args.self.now c.args.place c.index-ends.result.now c.in-Ok.more c.args.message c.self.view_is c.requires c.index-ends.ensures c.self.invariant
    (subst (λ (s : Cells). IsAdded s c.add.new.cells.slots c.index-ends.result.now c.in-Ok.more c.args.message) c.room_for.ensures.slots c.add.ensures)

pub returns-clause-ok : goal.returns-clause-ok
returns-clause-ok c =
    push-view c.self.inside.cells.slots c.add.new.cells.slots c.self.inside.ends.items c.args.self.now c.args.place c.index-ends.result.now c.in-Ok.more c.args.message c.self.view_is c.requires c.index-ends.ensures c.self.invariant
    (subst (λ (s : Cells). IsAdded s c.add.new.cells.slots c.index-ends.result.now c.in-Ok.more c.args.message) c.room_for.ensures.slots c.add.ensures)
