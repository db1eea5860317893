use Rattle.std.proofs.Common.{ap, ◌<◌, length, arith}
use Rattle.std.specs.Prelude.{not}
use Rattle.dcsp_row.specs.Lines.{is_off}
use Rattle.dcsp_row.proofs.Domains.{one_marked}
use Rattle.dcsp_row.proofs.sums.fill_sum.Goals as goal

pub loop-place-preserved : goal.loop-place-preserved
loop-place-preserved c =
    let inside : c.loop-place.place < length c.args.domain.now = omega arith in
    one_marked (is_off c.args.opened) c.args.domain.now c.loop-place.place c.loop-place.row c.put.new.self (not c.holds_at-holds.result)
    c.loop-place.invariant inside c.put.ensures (ap not c.holds_at-holds.ensures)
