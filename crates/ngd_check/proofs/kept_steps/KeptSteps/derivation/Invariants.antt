use Rattle.std.proofs.Common.{◌≡◌, take}
use Rattle.ngd_check.proofs.kept_steps.KeptSteps.derivation.Given as goal

-- the steps so far
abbrev pub invariant-loop-place : goal.invariant-loop-place
invariant-loop-place l = l.steps ≡ take l.place l.self
