use Rattle.std.proofs.Common.{◌≡◌, ◌++◌, take}
use Rattle.std.specs.Prelude.{flat_map}
use Rattle.rup_check.specs.ProofText.{literal_text}
use Rattle.line_export.proofs.lines.push_clause.Given as goal

abbrev pub invariant-loop-literal : goal.invariant-loop-literal
invariant-loop-literal l = l.line.items ≡ l.initial.line.items ++ flat_map literal_text (take l.literal-index l.literals)
