use Rattle.std.proofs.Common.{◌<◌, ◌-◌, length, set, arith, ap, subst, sym, get_or, ℕ, List}
use Rattle.abt_links.specs.Blocks.{AreSummed}
use Rattle.abt_links.proofs.Blocks.{fits_block, group_some, is_some, one-less}
use Rattle.abt_links.proofs.sums.Sums.lower.Goals as goal

pub overflow_sub-index_mut-2 : goal.overflow_sub-index_mut-2
overflow_sub-index_mut-2 c =
    let inside : c.args.place < length c.self.inside.counts.items = omega (arith, c.requires.exists, ap length c.self.view_is) in
    let some : 0 < c.index_mut.result.now = is_some c.self.inside.counts.items c.args.place c.index_mut.result.now inside c.index_mut.ensures.value (subst (λ (l : List ℕ). 0 < get_or l c.args.place 0) (sym c.self.view_is) c.requires.some) in
    omega (arith, fits_block c.self.inside.width c.self.inside.counts.items c.self.inside.blocks.items c.self.inside.total c.args.place c.index_mut.result.now c.block_of-block.result c.index_mut-2.result.now c.self.invariant.blocked inside c.index_mut.ensures.value c.block_of-block.ensures c.index_mut-2.ensures.value)

pub lower_group-requires : goal.lower_group-requires
lower_group-requires c =
    let inside : c.args.place < length c.self.inside.counts.items = omega (arith, c.requires.exists, ap length c.self.view_is) in
    let some : 0 < c.index_mut.result.now = is_some c.self.inside.counts.items c.args.place c.index_mut.result.now inside c.index_mut.ensures.value (subst (λ (l : List ℕ). 0 < get_or l c.args.place 0) (sym c.self.view_is) c.requires.some) in
    record { some = group_some c.self.inside.width c.self.inside.counts.items c.self.inside.blocks.items c.self.inside.groups.items c.self.inside.total c.args.place c.index_mut.result.now c.block_of-block.result c.index_mut-2.result.now c.self.invariant inside c.index_mut.ensures.value c.block_of-block.ensures c.index_mut-2.ensures.value some }

pub invariant_of-self : goal.invariant_of-self
invariant_of-self c =
    let inside : c.args.place < length c.self.inside.counts.items = omega (arith, c.requires.exists, ap length c.self.view_is) in
    let some : 0 < c.index_mut.result.now = is_some c.self.inside.counts.items c.args.place c.index_mut.result.now inside c.index_mut.ensures.value (subst (λ (l : List ℕ). 0 < get_or l c.args.place 0) (sym c.self.view_is) c.requires.some) in
    subst (λ (g : List ℕ). AreSummed c.self.inside.width (set c.self.inside.counts.items c.args.place (c.index_mut.result.now - 1)) (set c.self.inside.blocks.items c.block_of-block.result (c.index_mut-2.result.now - 1)) g (c.self.inside.total - 1)) (sym c.lower_group.ensures)
    (one-less c.self.inside.width c.self.inside.counts.items c.self.inside.blocks.items c.self.inside.groups.items c.self.inside.total c.args.place c.index_mut.result.now c.block_of-block.result c.index_mut-2.result.now c.self.invariant inside c.index_mut.ensures.value c.block_of-block.ensures c.index_mut-2.ensures.value some)
