use Rattle.std.proofs.Common.{◌≡◌, ◌++◌, take}
use Rattle.dcsp_rule.proofs.flat.append.Given as goal

abbrev pub invariant-loop-item : goal.invariant-loop-item
invariant-loop-item g l = l.list.items ≡ l.initial.list.items ++ take l.item-index l.more
