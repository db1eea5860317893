use Rattle.std.proofs.Common.{◌≡◌, ◌++◌, ◌-◌, List, ℕ, arith, string_bytes, flat_map, ap, ◌∙◌}
use Rattle.dcsp_gen.specs.Sensors.{slot_line, slots}
use Rattle.dcsp_gen.proofs.Ranges.{one_more}
use Rattle.dcsp_gen.proofs.sensor_texts.push_slots_of.Goals as goal

pub loop-slot-preserved : goal.loop-slot-preserved
loop-slot-preserved c =
    one_more (slot_line c.list_of-sensors.result.now c.args.target) (string_bytes c.args.text.now) (string_bytes c.loop-slot.text) _ c.loop-slot.slot (omega (arith, c.loop-slot.auto.slot)) c.loop-slot.invariant c.in_ok-push_slot.ensures

pub returns : goal.returns
returns c =
    let all : c.loop-slot.slot - 1 ≡ 3 = omega (arith, c.loop-slot-test.false, c.loop-slot.auto.slot) in
    (rw all at c.loop-slot.invariant) ∙ ap (λ (sensors : List ℕ). string_bytes c.args.text.now ++ flat_map (slot_line sensors c.args.target) slots) c.list_of-sensors.ensures
