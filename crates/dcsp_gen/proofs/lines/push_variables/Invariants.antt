use Rattle.std.proofs.Common.{◌≡◌, ◌-◌, ◌++◌, string_bytes}
use Rattle.dcsp_gen.specs.Lines.{variable_lines}
use Rattle.dcsp_gen.proofs.lines.push_variables.Given as goal

abbrev pub invariant-loop-number : goal.invariant-loop-number
invariant-loop-number l = string_bytes l.text ≡ string_bytes l.initial.text ++ variable_lines l.letter l.high (l.number - 1)
