use Rattle.std.proofs.Common.{◌≡◌, ◌++◌, length}
use Rattle.dcsp_gen.specs.Lists.{pairs_in}
use Rattle.dcsp_gen.proofs.lists.pairs_in.Given as goal

abbrev pub invariant-loop-first : goal.invariant-loop-first
invariant-loop-first l = l.pairs.items ++ pairs_in l.rest ≡ pairs_in l.fn.numbers

abbrev pub decreases-loop-first : goal.decreases-loop-first
decreases-loop-first l = length l.rest
