-- The classes of bytes, and stretches of bytes in a text.
use Rattle.std.specs.Prelude.{◌≡◌, ℕ, ◌+◌, ◌<◌, ◌≤◌, Bool, true, false, ◌||◌, ◌&&◌, ◌==◌, not, List, [], ◌∷◌, length, slice_index}
use Rattle.std.specs.Char.{is_ascii_alphabetic, is_ascii_alphanumeric, is_digit}

-- a space, a tab, a line feed or a carriage return
abbrev pub is_blank : ℕ → Bool
is_blank b = ((b == 32 || b == 9) || b == 10) || b == 13

-- a letter or `_`
abbrev pub is_letter : ℕ → Bool
is_letter b = is_ascii_alphabetic b || b == 95

-- a letter, a digit or `_`
abbrev pub is_name_byte : ℕ → Bool
is_name_byte b = is_ascii_alphanumeric b || b == 95

-- a digit in this base; above 9, a letter in either case
abbrev pub is_digit_in : ℕ → ℕ → Bool
is_digit_in base b = is_digit b base

-- a byte that stands for itself between quotes: neither `"` nor `\` nor a line feed
abbrev pub is_plain : ℕ → Bool
is_plain b = (not (b == 34) && not (b == 92)) && not (b == 10)

-- exactly these bytes stand from place i up to place j
abbrev pub IsHere : List ℕ → List ℕ → ℕ → ℕ → Type 0
IsHere [] text i j = i ≡ j
IsHere (b ∷ bs) text i j = (i < length text) × (slice_index text i ≡ b) × IsHere bs text (i + 1) j

-- each byte from place i up to place j passes
pub record IsRun (p : ℕ → Bool) (text : List ℕ) (i j : ℕ) : Type 0 where
  pub ordered : i ≤ j
  pub within : j ≤ length text
  pub each : (k : ℕ) → i ≤ k → k < j → p (slice_index text k) ≡ true

-- the run that begins at place i ends at place j: the next byte, if there is one, does not pass
pub record IsWholeRun (p : ℕ → Bool) (text : List ℕ) (i j : ℕ) : Type 0 where
  pub run : IsRun p text i j
  pub stops : j < length text → p (slice_index text j) ≡ false
