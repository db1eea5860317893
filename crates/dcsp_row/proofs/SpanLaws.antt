-- Between its ends a span has all places or none.
use Rattle.std.proofs.Common.{◌≡◌, ◌≢◌, ◌==◌, ℕ, ◌<◌, ◌≤◌, Bool, true, false, not, refl, ◌&&◌, cond, nat_lt, ap, ◌∙◌, arith, inl, inr}
use mathlib.Core.Bool.{beq}
use Rattle.std.proofs.lemmas.Bool.{cases_lt}
use Rattle.std.proofs.lemmas.Bool.Decides.{nat_tests}
use Rattle.dcsp_row.specs.declared.span.Span.{Span}
use Rattle.dcsp_row.specs.Spans.{is_within}

both_below : (at k end : ℕ) → at < end → k < end → nat_lt k end ≡ nat_lt at end
both_below at k end l m = grind (arith, nat_tests)

both_past : (at k end : ℕ) → end ≤ at → end ≤ k → nat_lt k end ≡ nat_lt at end
both_past at k end l m = grind (arith, nat_tests)

same_side : (at k until end : ℕ) → at ≤ k → k < until → (at < end → until ≤ end) → nat_lt k end ≡ nat_lt at end
same_side at k until end l m cut = elim (cases_lt at end) [
  | inl before ↦ let past : until ≤ end = cut before in both_below at k end before (omega (arith, m, past))
  | inr after ↦ both_past at k end after (omega (arith, l, after))
]

pub steady : (span : Span) (at k until : ℕ) → at ≤ k → k < until → (at < span.from → until ≤ span.from) → (at < span.to → until ≤ span.to) → is_within span k ≡ is_within span at
steady span at k until l m from to = ap (λ b. cond (span.outside == 0) b (not b))
    (ap (λ b. b && not (nat_lt k span.from)) (same_side at k until span.to l m to) ∙ ap (λ b. nat_lt at span.to && not b) (same_side at k until span.from l m from))

pub alike : (a b : Bool) → not (beq a b) ≡ false → a ≡ b
alike true true e = refl
alike false false e = refl
alike true false e = absurd (let clash : true ≡ false = e in cc)
alike false true e = absurd (let clash : true ≡ false = e in cc)

pub unlike : (a b : Bool) → not (beq a b) ≡ true → a ≢ b
unlike true true e = absurd (let clash : false ≡ true = e in cc)
unlike false false e = absurd (let clash : false ≡ true = e in cc)
unlike true false e = λ same. cc
unlike false true e = λ same. cc
