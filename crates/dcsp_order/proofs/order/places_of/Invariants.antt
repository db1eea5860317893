use Rattle.std.proofs.Common.{◌≡◌, ℕ, ◌<◌, length, slice_index_or}
use Rattle.dcsp_order.proofs.order.places_of.Given as goal

abbrev pub invariant-loop-place : goal.invariant-loop-place
invariant-loop-place l = record {
  as_many : length l.places.items ≡ length l.numbers;
  each : (j : ℕ) → j < l.place → slice_index_or l.places.items (slice_index_or l.numbers j 0) 0 ≡ j;
}
