-- Texts between quotes.
use Rattle.std.specs.Prelude.{◌≡◌, ℕ, ◌+◌, ◌<◌, true, List, length, slice_index, codes}
use Rattle.fzn_token.specs.Bytes.{is_plain, IsHere}

-- what may stand between quotes: plain bytes, and a `\` with one byte after it that is no line feed
pub data IsInside (text : List ℕ) : ℕ → ℕ → Type 0 where
  nothing : {i : ℕ} → IsInside text i i
  plain : {i j : ℕ} → i < length text → is_plain (slice_index text i) ≡ true → IsInside text (i + 1) j → IsInside text i j
  escaped : {i j : ℕ} → i + 1 < length text → slice_index text i ≡ 92 → (slice_index text (i + 1) ≡ 10 → ⊥) → IsInside text (i + 2) j → IsInside text i j

-- what may stand between quotes, and a `"`
abbrev pub IsTextEnd : List ℕ → ℕ → ℕ → Type 0
IsTextEnd text i j = (k : ℕ) × IsInside text i k × IsHere (codes "\"") text k j

-- a text: a `"`, what may stand between quotes, and a `"`
abbrev pub IsQuoted : List ℕ → ℕ → ℕ → Type 0
IsQuoted text i j = (k : ℕ) × IsHere (codes "\"") text i k × IsTextEnd text k j
