use Rattle.std.proofs.Common.{◌≡◌, ◌+◌, ◌*◌, sum, take}
use Rattle.abt_links.proofs.sums.find_block.Given as goal

abbrev pub invariant-loop-group : goal.invariant-loop-group
invariant-loop-group l = sum (take (16 * l.group) l.blocks) + l.left ≡ l.number
