use Rattle.std.proofs.Common.{◌≡◌, ◌++◌, drop, string_bytes, flat_map}
use Rattle.dcsp_gen.specs.Sensors.{hearing_line}
use Rattle.dcsp_gen.proofs.sensor_texts.push_hearings.Given as goal

abbrev pub invariant-loop-slots : goal.invariant-loop-slots
invariant-loop-slots l =
    string_bytes l.text ++ flat_map (hearing_line l.target l.rows) (drop l.slots-index l.pairs) ≡ string_bytes l.initial.text ++ flat_map (hearing_line l.target l.rows) l.pairs
