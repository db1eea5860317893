use Rattle.std.proofs.Common.{◌≡◌, ◌<◌, ◌≤◌, ℕ, get_or, None, is_some, not, false}
use Rattle.abt_reason.proofs.kept.KeptSteps.first_without.Given as goal

abbrev pub invariant-loop-place : goal.invariant-loop-place
invariant-loop-place l = record {
  after : l.from ≤ l.place;
  none : (k : ℕ) → l.from ≤ k → k < l.place → not (is_some (get_or l.self.steps.items k None)) ≡ false;
}
