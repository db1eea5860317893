use Rattle.std.proofs.Common.{◌≡◌, ◌++◌, map, take, drop}
use Rattle.ngd_rewrite.specs.Needed.{renumbered_reason}
use Rattle.ngd_rewrite.specs.Marks.{number_in}
use Rattle.ngd_rewrite.proofs.trim.renumber.Given as goal

-- the reasons so far have their new numbers
abbrev pub invariant-loop-place : goal.invariant-loop-place
invariant-loop-place l = l.reasons ≡ map (renumbered_reason (number_in l.numbers)) (take l.place l.fn.reasons) ++ drop l.place l.fn.reasons
