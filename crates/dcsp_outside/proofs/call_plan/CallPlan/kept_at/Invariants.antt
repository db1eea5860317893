use Rattle.std.proofs.Common.{◌≡◌, drop}
use Rattle.dcsp_outside.specs.Memory.{kept_at}
use Rattle.dcsp_outside.proofs.call_plan.CallPlan.kept_at.Given as goal

-- what the failures say is what those that are left say
abbrev pub invariant-loop-failure : goal.invariant-loop-failure
invariant-loop-failure l = kept_at l.call (drop l.failure-index l.self.failing) ≡ kept_at l.call l.self.failing
