use Rattle.std.proofs.Common.{◌≡◌, ◌<◌, ◌≤◌, ◌-◌, ℕ}
use Rattle.dcsp_row.specs.Spans.{is_within}
use Rattle.dcsp_row.proofs.span.Span.next_change.Given as goal

abbrev pub invariant-loop-at : goal.invariant-loop-at
invariant-loop-at l = record {
  after : l.from ≤ l.at;
  same : (k : ℕ) → l.from ≤ k → k < l.at → is_within l.self k ≡ is_within l.other k;
}

abbrev pub decreases-loop-at : goal.decreases-loop-at
decreases-loop-at l = l.size - l.at
