use Rattle.std.proofs.Common.{◌≡◌, filter}
use Rattle.dcsp_defs.specs.Words.{below}
use Rattle.ngd_rewrite.specs.Marks.{has_mark}
use Rattle.ngd_rewrite.proofs.rules.marked_places.Given as goal

abbrev pub invariant-loop-place : goal.invariant-loop-place
invariant-loop-place l = l.places ≡ filter (has_mark l.marks) (below l.place)
