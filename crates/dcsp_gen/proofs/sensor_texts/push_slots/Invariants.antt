use Rattle.std.proofs.Common.{◌≡◌, ◌++◌, ◌-◌, string_bytes, flat_map}
use Rattle.std.specs.List.{range_with_len}
use Rattle.dcsp_gen.specs.Lists.{lists_in}
use Rattle.dcsp_gen.specs.Sensors.{slot_lines}
use Rattle.dcsp_gen.proofs.sensor_texts.push_slots.Given as goal

abbrev pub invariant-loop-target : goal.invariant-loop-target
invariant-loop-target l = string_bytes l.text ≡ string_bytes l.initial.text ++ flat_map (slot_lines (lists_in l.seen)) (range_with_len 1 (l.target - 1))
