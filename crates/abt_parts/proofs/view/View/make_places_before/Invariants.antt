use Rattle.std.proofs.Common.{◌≡◌, ℕ, length, true}
use Rattle.abt_parts.specs.Views.{has_place, view_of}
use Rattle.abt_parts.proofs.view.View.make_places_before.Given as goal

abbrev pub invariant-loop-near : goal.invariant-loop-near
invariant-loop-near l = record {
  stay : (k : ℕ) → has_place l.initial.self k ≡ true → has_place l.self k ≡ true;
  told : view_of l.self ≡ view_of l.initial.self;
  slots : length l.self ≡ length l.initial.self;
}
