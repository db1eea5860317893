-- Gaps between tokens.
use Rattle.std.proofs.Common.{◌≡◌, ℕ, ◌+◌, ◌<◌, ◌≤◌, true, false, List, length, ◌⊎◌, ⊎_elim, arith, sym, ◌∙◌, inl, inr}
use Rattle.std.specs.Prelude.{slice_index}
use Rattle.std.proofs.lemmas.Bool.{cases_lt, false≢true}
use Rattle.fzn_token.specs.Bytes.{is_blank}
use Rattle.fzn_token.specs.Gaps.{IsSkipped, IsGap}

-- a gap as far as place j, where a comment goes on only at its line feed
pub record IsGapSoFar (text : List ℕ) (i j : ℕ) : Type 0 where
  pub ordered : i ≤ j
  pub within : j ≤ length text
  pub skipped : (k : ℕ) → i ≤ k → k < j → IsSkipped text i k
  pub feed : (start : ℕ) → i ≤ start → start < j → slice_index text start ≡ 37 → j < length text → (m : ℕ) × (start ≤ m) × (m ≤ j) × (slice_index text m ≡ 10)

-- at the start nothing is skipped
pub gap_none : {text : List ℕ} {i : ℕ} → i ≤ length text → IsGapSoFar text i i
gap_none within = record { ordered = omega arith; within = within; skipped = λ k from before. (let no : ⊥ = omega arith in absurd no); feed = λ start from before _ _. (let no : ⊥ = omega arith in absurd no) }

-- a blank is no `%`
blank_not_percent : (b : ℕ) → is_blank b ≡ true → b ≡ 37 → ⊥
blank_not_percent b blank is = false≢true (rw is at blank)

-- one more blank
pub gap_blank : {text : List ℕ} {i j : ℕ} → IsGapSoFar text i j → j < length text → is_blank (slice_index text j) ≡ true → IsGapSoFar text i (j + 1)
gap_blank {text} {i} {j} so_far below blank = record {
  ordered = omega arith;
  within = omega arith;
  skipped = λ k from before. ⊎_elim (λ earlier. so_far.skipped k from earlier) (λ here. let same : j ≡ k = omega arith in inl (rw same at blank)) (cases_lt k j);
  feed = λ start from before percent within. ⊎_elim
      (λ earlier. let found = so_far.feed start from earlier percent below in (found.0, found.1, omega arith, found.3))
      (λ here. let same : start ≡ j = omega arith in absurd (blank_not_percent _ blank (rw same at percent)))
      (cases_lt start j);
}

-- one more comment, up to its line feed or the text's end
pub gap_comment : {text : List ℕ} {i j to : ℕ} → IsGapSoFar text i j → slice_index text j ≡ 37 → j < to → to ≤ length text → ((k : ℕ) → j < k → k < to → slice_index text k ≡ 10 → ⊥) → (to < length text → slice_index text to ≡ 10) → IsGapSoFar text i to
gap_comment {text} {i} {j} {to} so_far percent ordered within line feed = record {
  ordered = omega arith;
  within = within;
  skipped = λ k from before. ⊎_elim
      (λ earlier. so_far.skipped k from earlier)
      (λ not_earlier. inr (record {
        start = j;
        from_gap = so_far.ordered;
        before = not_earlier;
        percent = percent;
        same_line = λ m at_least at_most is_feed. ⊎_elim
            (λ past. line m past (omega arith) is_feed)
            (λ here. let same : m ≡ j = omega arith in let ten : slice_index text j ≡ 10 = rw same at is_feed in omega arith)
            (cases_lt j m);
      }))
      (cases_lt k j);
  feed = λ start from before percent_at below. (to, omega arith, omega arith, feed below);
}

-- a gap ends at the text's end, or at a byte that is no blank and no `%`
pub gap_whole : {text : List ℕ} {i j : ℕ} → IsGapSoFar text i j → (j < length text → (is_blank (slice_index text j) ≡ false) × (slice_index text j ≡ 37 → ⊥)) → IsGap text i j
gap_whole {text} {i} {j} so_far stop = record {
  ordered = so_far.ordered;
  within = so_far.within;
  skipped = so_far.skipped;
  stops = λ below. ⊎_elim (λ blank. false≢true (sym (stop below).0 ∙ blank)) (λ comment. ⊎_elim
      (λ earlier. let found = so_far.feed comment.start comment.from_gap earlier comment.percent below in comment.same_line found.0 found.1 found.2 found.3)
      (λ here. let same : comment.start ≡ j = omega (arith, comment.before) in (stop below).1 (rw same at comment.percent))
      (cases_lt comment.start j));
}

-- the gap that begins at a place ends at one place
pub same_gap : {text : List ℕ} {i j k : ℕ} → IsGap text i j → IsGap text i k → j ≡ k
same_gap {text} {i} {j} {k} a b = ⊎_elim
    (λ less. absurd (a.stops (omega (arith, b.within)) (b.skipped j a.ordered less)))
    (λ not_less. ⊎_elim
    (λ more. absurd (b.stops (omega (arith, a.within)) (a.skipped k b.ordered more)))
    (λ not_more. omega arith)
    (cases_lt k j))
    (cases_lt j k)

-- where a gap ends there is none
pub gap_stays : {text : List ℕ} {i j : ℕ} → IsGap text i j → IsGap text j j
gap_stays {text} {i} {j} gap = record {
  ordered = omega arith;
  within = gap.within;
  skipped = λ k from before. (let no : ⊥ = omega arith in absurd no);
  stops = λ below skipped. gap.stops below (⊎_elim
      (λ blank. inl blank)
      (λ comment. inr (record { start = comment.start; from_gap = omega (arith, gap.ordered, comment.from_gap); before = comment.before; percent = comment.percent; same_line = comment.same_line }))
      skipped);
}

-- at the text's end there is no gap
pub no_gap_at_end : {text : List ℕ} {i : ℕ} → i ≤ length text → length text ≤ i → IsGap text i i
no_gap_at_end within past = gap_whole (gap_none within) (λ below. absurd (omega arith))

-- a gap goes on where it begins with a blank or a `%`
pub gap_moves : {text : List ℕ} {i j : ℕ} → IsGap text i j → i < length text → (is_blank (slice_index text i) ≡ true) ⊎ (slice_index text i ≡ 37) → i < j
gap_moves {text} {i} {j} gap below begins = ⊎_elim (λ moves. moves)
    (λ stays. let same : j ≡ i = omega (arith, gap.ordered) in absurd ((gap_stays gap).stops (omega arith) (rw same (⊎_elim
    (λ blank. inl blank)
    (λ percent. inr (record { start = i; from_gap = omega arith; before = omega arith; percent = percent; same_line = λ m from to feed. (let at : m ≡ i = omega arith in let ten : slice_index text i ≡ 10 = rw at at feed in omega arith) }))
    begins))))
    (cases_lt i j)
