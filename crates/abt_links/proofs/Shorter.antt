-- The last list, which is empty, goes.
use Rattle.std.proofs.Common.{◌≡◌, ℕ, ◌+◌, ◌-◌, ◌<◌, List, take, length, sym, ap, ◌∙◌, arith, inl, inr}
use Rattle.std.specs.Prelude.{sum_by}
use Rattle.std.proofs.lemmas.Bool.{cases_lt}
use Rattle.std.proofs.lemmas.List.{take_all, get_or_past}
use Rattle.std.proofs.lemmas.List.Sums.{sum_by_more}
use lib.Seq.{get_or-take, length-take-le}
use Rattle.abt_links.specs.declared.queues.Ends.{Ends}
use Rattle.abt_links.specs.Chains.{Cells, ends_at, no_ends, key_after, key_in, IsSound}

module _ (s : Cells) (ends : List Ends) (n : ℕ) (long : length ends ≡ n + 1) (empty : (ends_at ends n).count ≡ 0) where
  abbrev short : List Ends
  short = take n ends

  -- a list with messages stands where it stood
  kept : (i : ℕ) → 0 < (ends_at short i).count → ends_at short i ≡ ends_at ends i
  kept i some = elim (cases_lt i n) [
    | inl below ↦ get_or-take n ends i no_ends below
    | inr past ↦
        let few = length-take-le n ends in
        let none = ap (λ (e : Ends). e.count) (get_or_past short i no_ends (omega (arith, few, past))) in
        absurd (omega (arith, none, some))
  ]

  same_key : (i a : ℕ) → 0 < (ends_at short i).count → key_in s short i a ≡ key_in s ends i a
  same_key i a some = ap (λ (e : Ends). key_after s e.first a) (kept i some)

  pub sound_shorter : IsSound s ends → IsSound s short
  sound_shorter sound = record {
    live = λ i a l.
        let some : 0 < (ends_at short i).count = omega (arith, l) in
        let same = ap (λ (e : Ends). e.count) (kept i some) in
        rw (same_key i a some) (sound.live i a (omega (arith, l, same)));
    apart = λ i j a b l m e.
        let here : 0 < (ends_at short i).count = omega (arith, l) in
        let there : 0 < (ends_at short j).count = omega (arith, m) in
        let one = ap (λ (x : Ends). x.count) (kept i here) in
        let two = ap (λ (x : Ends). x.count) (kept j there) in
        sound.apart i j a b (omega (arith, l, one)) (omega (arith, m, two)) (sym (same_key i a here) ∙ e ∙ same_key j b there);
    last = λ i some.
        let same = kept i some in
        let count = ap (λ (e : Ends). e.count) same in
        let place : (ends_at short i).count - 1 ≡ (ends_at ends i).count - 1 = omega (arith, count) in
        ap (λ (e : Ends). e.last) same ∙ sound.last i (omega (arith, count, some)) ∙ sym (same_key i ((ends_at ends i).count - 1) some) ∙ ap (λ k. key_in s short i k) (sym place);
    counted =
        let more = sum_by_more (λ (e : Ends). e.count) ends n no_ends (omega (arith, long)) in
        let all = ap (λ (es : List Ends). sum_by (λ (e : Ends). e.count) es) (take_all (n + 1) ends (omega (arith, long))) in
        omega (arith, sound.counted, more, all, empty);
  }
