-- Gaps: the blanks and comments between tokens.
use Rattle.std.specs.Prelude.{◌≡◌, ℕ, ◌<◌, ◌≤◌, ◌⊎◌, true, List, length, slice_index}
use Rattle.fzn_token.specs.Bytes.{is_blank}

-- in a gap that begins at i, place k is in a comment: a `%` stands before it, and no line feed from there on
pub record IsInComment (text : List ℕ) (i k : ℕ) : Type 0 where
  pub start : ℕ
  pub from_gap : i ≤ start
  pub before : start ≤ k
  pub percent : slice_index text start ≡ 37
  pub same_line : (m : ℕ) → start ≤ m → m ≤ k → slice_index text m ≡ 10 → ⊥

-- in a gap that begins at i, place k is a blank or in a comment
abbrev pub IsSkipped : List ℕ → ℕ → ℕ → Type 0
IsSkipped text i k = (is_blank (slice_index text k) ≡ true) ⊎ IsInComment text i k

-- the gap that begins at place i ends at place j, which is the text's end or is not skipped
pub record IsGap (text : List ℕ) (i j : ℕ) : Type 0 where
  pub ordered : i ≤ j
  pub within : j ≤ length text
  pub skipped : (k : ℕ) → i ≤ k → k < j → IsSkipped text i k
  pub stops : j < length text → IsSkipped text i j → ⊥
