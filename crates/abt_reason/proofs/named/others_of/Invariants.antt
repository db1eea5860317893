use Rattle.std.proofs.Common.{◌≡◌, take}
use Rattle.abt_reason.specs.Named.{others_of}
use Rattle.abt_reason.proofs.named.others_of.Given as goal

abbrev pub invariant-loop-rule : goal.invariant-loop-rule
invariant-loop-rule l = l.others.items ≡ others_of l.problem l.agent (take l.rule-index l.rules)
