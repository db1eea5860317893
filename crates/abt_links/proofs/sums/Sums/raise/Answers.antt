use Rattle.std.proofs.Common.{◌<◌, ◌+◌, length, sum, set, arith, ap, subst, sym, ℕ, List}
use Rattle.abt_links.specs.Blocks.{AreSummed}
use Rattle.abt_links.proofs.Blocks.{fits_total, group_few, one-more}
use Rattle.abt_links.proofs.sums.Sums.raise.Goals as goal

pub overflow_add-index_mut-2 : goal.overflow_add-index_mut-2
overflow_add-index_mut-2 c =
    let inside : c.args.place < length c.self.inside.counts.items = omega (arith, c.requires.exists, ap length c.self.view_is) in
    omega (arith, fits_total c.self.inside.width c.self.inside.counts.items c.self.inside.blocks.items c.self.inside.total c.args.place c.index_mut.result.now c.block_of-block.result c.index_mut-2.result.now c.self.invariant.blocked inside c.index_mut.ensures.value c.block_of-block.ensures c.index_mut-2.ensures.value, c.self.invariant.blocked.whole, ap sum c.self.view_is, c.requires.few)

pub raise_group-requires : goal.raise_group-requires
raise_group-requires c =
    let inside : c.args.place < length c.self.inside.counts.items = omega (arith, c.requires.exists, ap length c.self.view_is) in
    record { few = group_few c.self.inside.width c.self.inside.counts.items c.self.inside.blocks.items c.self.inside.groups.items c.self.inside.total c.args.place c.index_mut.result.now c.block_of-block.result c.index_mut-2.result.now c.self.invariant inside c.index_mut.ensures.value c.block_of-block.ensures c.index_mut-2.ensures.value (omega (arith, c.self.invariant.blocked.whole, ap sum c.self.view_is, c.requires.few)) }

pub invariant_of-self : goal.invariant_of-self
invariant_of-self c =
    let inside : c.args.place < length c.self.inside.counts.items = omega (arith, c.requires.exists, ap length c.self.view_is) in
    subst (λ (g : List ℕ). AreSummed c.self.inside.width (set c.self.inside.counts.items c.args.place (c.index_mut.result.now + 1)) (set c.self.inside.blocks.items c.block_of-block.result (c.index_mut-2.result.now + 1)) g (c.self.inside.total + 1)) (sym c.raise_group.ensures)
    (one-more c.self.inside.width c.self.inside.counts.items c.self.inside.blocks.items c.self.inside.groups.items c.self.inside.total c.args.place c.index_mut.result.now c.block_of-block.result c.index_mut-2.result.now c.self.invariant inside c.index_mut.ensures.value c.block_of-block.ensures c.index_mut-2.ensures.value)
