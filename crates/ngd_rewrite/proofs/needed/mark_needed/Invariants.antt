use Rattle.std.proofs.Common.{◌≡◌, ◌≤◌, ◌<◌, ℕ, length, true, Some}
use Rattle.dcsp_defs.specs.declared.Step.{Step}
use Rattle.dcsp_defs.specs.Derivation.{step_at}
use Rattle.ngd_rewrite.specs.Needed.{cites, IsNeeded}
use Rattle.ngd_rewrite.specs.Marks.{is_marked}
use Rattle.ngd_rewrite.proofs.needed.mark_needed.Given as goal

-- what is marked is needed, the last step is marked, and what the marked steps after those left cite is marked
abbrev pub invariant-loop-left : goal.invariant-loop-left
invariant-loop-left l = record {
  left : l.left ≤ length l.steps;
  as_many : length l.needed ≡ length l.fn.needed;
  sound : (number : ℕ) → is_marked l.needed number ≡ true → IsNeeded l.steps number;
  last : is_marked l.needed (length l.steps) ≡ true;
  closed : (by : ℕ) (step : Step) (number : ℕ) → l.left < by → is_marked l.needed by ≡ true → step_at l.steps by ≡ Some step → cites step.reasons number ≡ true → is_marked l.needed number ≡ true;
}

abbrev pub decreases-loop-left : goal.decreases-loop-left
decreases-loop-left l = l.left
