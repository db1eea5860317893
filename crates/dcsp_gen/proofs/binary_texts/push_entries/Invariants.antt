use Rattle.std.proofs.Common.{◌≡◌, ◌++◌, drop, string_bytes, flat_map}
use Rattle.dcsp_gen.specs.Binary.{later_entry}
use Rattle.dcsp_gen.proofs.binary_texts.push_entries.Given as goal

abbrev pub invariant-loop-row : goal.invariant-loop-row
invariant-loop-row l = string_bytes l.text ++ flat_map later_entry (drop l.row-index l.later) ≡ string_bytes l.initial.text ++ flat_map later_entry l.later
