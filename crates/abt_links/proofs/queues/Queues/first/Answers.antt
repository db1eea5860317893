use Rattle.std.proofs.Common.{ap, subst, sym, ◌∙◌, IsSome}
use Rattle.std.specs.Option.{option_copied}
use Rattle.abt_links.proofs.Takes.{found_first, first_is_live}
use Rattle.abt_links.proofs.queues.Queues.first.Goals as goal

pub returns-in-Some : goal.returns-in-Some
returns-in-Some c =
    found_first c.self.inside.cells.slots c.self.inside.ends.items c.args.self.now c.args.place c.index-ends.result.now c.in-Some.cell.now (option_copied c.get.result) c.self.view_is c.requires c.index-ends.ensures c.if-ends-eq0.false c.get.ensures (ap option_copied c.in-Some.is)

pub returns-in-None : goal.returns-in-None
returns-in-None c =
    let live = first_is_live c.self.inside.cells.slots c.self.inside.ends.items c.args.self.now c.args.place c.index-ends.result.now c.self.invariant c.self.view_is c.requires c.index-ends.ensures c.if-ends-eq0.false in
    absurd (let no = subst IsSome (sym c.get.ensures ∙ ap option_copied c.in-None.is) live in cc)
