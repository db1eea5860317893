use Rattle.std.proofs.Common.{◌≡◌, ◌++◌, drop, string_bytes, flat_map}
use Rattle.dcsp_gen.specs.Sensors.{share_lines}
use Rattle.dcsp_gen.proofs.sensor_texts.push_shares.Given as goal

abbrev pub invariant-loop-targets : goal.invariant-loop-targets
invariant-loop-targets l = string_bytes l.text ++ flat_map share_lines (drop l.targets-index l.pairs) ≡ string_bytes l.initial.text ++ flat_map share_lines l.pairs
