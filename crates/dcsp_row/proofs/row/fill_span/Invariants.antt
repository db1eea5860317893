use Rattle.std.proofs.Common.{◌≡◌, ◌<◌, ◌/◌, ℕ, length}
use Rattle.dcsp_row.specs.Bits.{has_bit}
use Rattle.dcsp_row.specs.Spans.{is_within}
use Rattle.dcsp_row.proofs.row.fill_span.Given as goal

abbrev pub invariant-loop-block : goal.invariant-loop-block
invariant-loop-block l = (length l.words ≡ length l.initial.words) × ((k : ℕ) → k / 64 < l.block → has_bit l.words k ≡ is_within l.span k)
