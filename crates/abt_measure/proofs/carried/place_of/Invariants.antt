use Rattle.abt_measure.specs.Carrying.{NoneBefore}
use Rattle.abt_measure.proofs.carried.place_of.Given as goal

abbrev pub invariant-loop-place : goal.invariant-loop-place
invariant-loop-place l = NoneBefore l.from l.list l.place
