use Rattle.std.proofs.Common.{length, ◌-◌, ◌<◌, ◌≤◌, ℕ, ◌≡◌}
use Rattle.std.specs.Prelude.{slice_index}
use Rattle.fzn_token.proofs.gap.comment_end.Given as goal

abbrev pub invariant-loop-at : goal.invariant-loop-at
invariant-loop-at l = (l.from < l.at) × (l.at ≤ length l.text) × ((k : ℕ) → l.from < k → k < l.at → slice_index l.text k ≡ 10 → ⊥)

abbrev pub decreases-loop-at : goal.decreases-loop-at
decreases-loop-at l = length l.text - l.at
