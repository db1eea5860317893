use Rattle.std.proofs.Common.{◌≡◌, ◌-◌, ◌++◌, string_bytes}
use Rattle.dcsp_gen.specs.Binary.{value_lines}
use Rattle.dcsp_gen.proofs.binary_texts.push_value_lines.Given as goal

abbrev pub invariant-loop-number : goal.invariant-loop-number
invariant-loop-number l = string_bytes l.text ≡ string_bytes l.initial.text ++ value_lines l.high (l.number - 1)
