use Rattle.std.proofs.Common.{◌∙◌, sym}
use Rattle.abt_links.proofs.Takes.{none_there}
use Rattle.abt_links.proofs.queues.Queues.count.Goals as goal

pub returns : goal.returns
returns c = c.from.ensures ∙ sym (none_there c.self.inside.cells.slots c.self.inside.ends.items c.args.self.now c.args.place c.index.result.now c.self.view_is c.requires c.index.ensures)
