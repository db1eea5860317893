use Rattle.std.proofs.Common.{take}
use Rattle.ngd_rewrite.specs.Endings.{AreEnds}
use Rattle.ngd_rewrite.proofs.ends.ends_of.Given as goal

-- where each step ends among the steps so far
abbrev pub invariant-loop-step : goal.invariant-loop-step
invariant-loop-step l = AreEnds (take l.step-index l.steps) l.ends.items
