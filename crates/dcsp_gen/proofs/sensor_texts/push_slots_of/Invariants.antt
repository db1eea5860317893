use Rattle.std.proofs.Common.{◌≡◌, ◌++◌, ◌-◌, string_bytes, flat_map}
use Rattle.std.specs.List.{range_with_len}
use Rattle.dcsp_gen.specs.Sensors.{slot_line}
use Rattle.dcsp_gen.proofs.sensor_texts.push_slots_of.Given as goal

abbrev pub invariant-loop-slot : goal.invariant-loop-slot
invariant-loop-slot l = string_bytes l.text ≡ string_bytes l.initial.text ++ flat_map (slot_line l.sensors l.target) (range_with_len 1 (l.slot - 1))
