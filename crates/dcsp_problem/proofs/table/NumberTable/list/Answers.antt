use Rattle.std.proofs.Common.{arith, ap, length}
use Rattle.dcsp_problem.proofs.PieceLaws.{place_there, bounds_are, piece_read}
use Rattle.dcsp_problem.proofs.table.NumberTable.list.Goals as goal

pub index-start-requires : goal.index-start-requires
index-start-requires c =
    let size = ap length c.self.view_is in
    let there = place_there c.self.inside.numbers.items c.self.inside.places.items c.args.place (omega (arith, c.requires)) in
    omega arith

pub overflow_add-place : goal.overflow_add-place
overflow_add-place c =
    let size = ap length c.self.view_is in
    let there = place_there c.self.inside.numbers.items c.self.inside.places.items c.args.place (omega (arith, c.requires)) in
    let small = c.self.inside.places.small in
    omega arith

pub index-end-requires : goal.index-end-requires
index-end-requires c =
    let size = ap length c.self.view_is in
    let there = place_there c.self.inside.numbers.items c.self.inside.places.items c.args.place (omega (arith, c.requires)) in
    omega arith

pub offset_bounds-deref-start : goal.offset_bounds-deref-start
offset_bounds-deref-start c =
    let size = ap length c.self.view_is in
    let b = bounds_are c.self.inside.numbers.items c.self.inside.places.items c.args.place c.index-start.result.now c.index-end.result.now c.self.invariant (omega (arith, c.requires)) c.index-start.ensures c.index-end.ensures in
    let small = c.self.inside.numbers.small in
    omega (arith, b.0, b.1)

pub slice_bounds-result-count : goal.slice_bounds-result-count
slice_bounds-result-count c =
    let size = ap length c.self.view_is in
    (bounds_are c.self.inside.numbers.items c.self.inside.places.items c.args.place c.index-start.result.now c.index-end.result.now c.self.invariant (omega (arith, c.requires)) c.index-start.ensures c.index-end.ensures).0

pub slice_bounds-result-start : goal.slice_bounds-result-start
slice_bounds-result-start c =
    let size = ap length c.self.view_is in
    let b = bounds_are c.self.inside.numbers.items c.self.inside.places.items c.args.place c.index-start.result.now c.index-end.result.now c.self.invariant (omega (arith, c.requires)) c.index-start.ensures c.index-end.ensures in
    let same = ap length c.deref.ensures.value in
    omega (arith, b.0, b.1)

pub slice_bounds-result-end : goal.slice_bounds-result-end
slice_bounds-result-end c =
    let size = ap length c.self.view_is in
    let b = bounds_are c.self.inside.numbers.items c.self.inside.places.items c.args.place c.index-start.result.now c.index-end.result.now c.self.invariant (omega (arith, c.requires)) c.index-start.ensures c.index-end.ensures in
    let same = ap length c.deref.ensures.value in
    omega (arith, b.0, b.1)

pub returns : goal.returns
returns c = piece_read c.self.inside.numbers.items c.self.inside.places.items c.deref.result.now c.args.self.now c.args.place c.index-start.result.now c.index-end.result.now c.self.invariant c.self.view_is c.deref.ensures.value c.requires c.index-start.ensures c.index-end.ensures
