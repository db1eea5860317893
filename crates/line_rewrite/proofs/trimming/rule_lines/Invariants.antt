use Rattle.std.proofs.Common.{◌≡◌, take}
use Rattle.std.specs.Prelude.{flat_map}
use Rattle.line_rewrite.specs.CorePromise.{rule_line}
use Rattle.line_rewrite.proofs.trimming.rule_lines.Given as goal

abbrev pub invariant-loop-rule : goal.invariant-loop-rule
invariant-loop-rule l = l.text.items ≡ flat_map rule_line (take l.rule-index l.rules)
