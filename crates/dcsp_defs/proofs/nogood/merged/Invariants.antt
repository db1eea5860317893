use Rattle.std.proofs.Common.{length, ◌-◌, ◌+◌}
use Rattle.dcsp_defs.proofs.Merging.{Merging}
use Rattle.dcsp_defs.proofs.nogood.merged.Given as goal

abbrev pub invariant-loop-i : goal.invariant-loop-i
invariant-loop-i l = Merging l.mine l.theirs l.except l.i l.j l.all.items

abbrev pub decreases-loop-i : goal.decreases-loop-i
decreases-loop-i l = (length l.mine - l.i) + (length l.theirs - l.j)
