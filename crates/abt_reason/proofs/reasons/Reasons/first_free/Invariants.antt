use Rattle.std.proofs.Common.{◌≡◌, ◌<◌, ◌-◌, ℕ, List, false}
use Rattle.dcsp_defs.specs.Csp.{PartialAssignment}
use Rattle.abt_parts.specs.declared.recorded.Recorded.{Recorded}
use Rattle.abt_reason.specs.Causes.{is_free_at}
use Rattle.abt_reason.specs.Cached.{StandsFor}
use Rattle.abt_reason.proofs.reasons.Reasons.first_free.Given as goal

abbrev pub invariant-loop-place : goal.invariant-loop-place
invariant-loop-place l = (known : PartialAssignment) (items : List Recorded) → StandsFor l.fn.self known items → (k : ℕ) → k < l.place → is_free_at l.fn.self.problem l.fn.self.agent known items k ≡ false

abbrev pub decreases-loop-place : goal.decreases-loop-place
decreases-loop-place l = l.size - l.place
