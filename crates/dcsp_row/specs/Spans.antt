-- Runs of places, and all places outside them.
use Rattle.std.specs.Prelude.{◌≡◌, ◌==◌, ℕ, ◌<◌, ℤ, Bool, not, ◌&&◌, List, length, nat_lt, if◌then◌else◌}
use Rattle.dcsp_row.specs.declared.span.Span.{Span}
use Rattle.dcsp_row.specs.Rows.{own_at}

-- whether a place stands from one on and before another
abbrev pub is_between : ℕ → ℕ → ℕ → Bool
is_between from to k = nat_lt k to && not (nat_lt k from)

-- whether a place is one of the span
abbrev pub is_within : Span → ℕ → Bool
is_within span k = if span.outside == 0 then is_between span.from span.to k else not (is_between span.from span.to k)

-- the span has the places of exactly those of these values that pass the test
abbrev pub SpansWhere : (ℤ → Bool) → List ℤ → Span → Type 0
SpansWhere test values span = (k : ℕ) → k < length values → is_within span k ≡ test (own_at values k)
