use Rattle.std.proofs.Common.{◌≡◌, ◌<◌, ℕ, length, true, None}
use Rattle.abt_parts.specs.Views.{has_place, view_of}
use Rattle.abt_parts.proofs.view.View.new.Given as goal

abbrev pub invariant-loop-higher : goal.invariant-loop-higher
invariant-loop-higher l = record {
  made : (k : ℕ) → k < l.higher → has_place l.view k ≡ true;
  told : view_of l.view ≡ (λ k. None);
  slots : length l.view ≡ l.agent;
}
