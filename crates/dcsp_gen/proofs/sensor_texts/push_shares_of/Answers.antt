use Rattle.std.proofs.Common.{arith, string_bytes, flat_map, ◌≡◌, ◌-◌}
use Rattle.dcsp_gen.specs.Sensors.{share_line, slots}
use Rattle.dcsp_gen.proofs.Ranges.{one_more}
use Rattle.dcsp_gen.proofs.sensor_texts.push_shares_of.Goals as goal

pub loop-slot-preserved : goal.loop-slot-preserved
loop-slot-preserved c = one_more (λ slot. flat_map (share_line c.args.targets slot) slots) (string_bytes c.args.text.now) (string_bytes c.loop-slot.text) _ c.loop-slot.slot (omega (arith, c.loop-slot.auto.slot)) c.loop-slot.invariant c.in_ok-push_shares_from.ensures

pub returns : goal.returns
returns c =
    let all : c.loop-slot.slot - 1 ≡ 3 = omega (arith, c.loop-slot-test.false, c.loop-slot.auto.slot) in
    rw all at c.loop-slot.invariant
