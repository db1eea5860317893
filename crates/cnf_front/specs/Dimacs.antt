-- The words of a DIMACS text.
use Rattle.std.specs.Prelude.{◌≡◌, ◌≢◌, ℕ, ◌+◌, suc, Bool, true, false, ◌||◌, List, [], ◌∷◌, Option, Some, None, ◌==◌, if◌then◌else◌}
use Rattle.std.specs.Str.{byte}
use Rattle.cnf_front.specs.declared.words.Stand.{Stand}
use Rattle.cnf_front.specs.declared.words.Stand.TheVariants.{Start, Inside, Comment}

-- a word and its place in the text; the end of the text is the empty word
pub record TextWord : Type 0 where
  pub bytes : List ℕ
  pub at : ℕ

abbrev pub word_at : List ℕ → ℕ → TextWord
word_at bytes at = record { bytes = bytes; at = at }

-- a space, a tab, a carriage return or a line feed
abbrev pub is_blank : ℕ → Bool
is_blank b = b == 32 || b == 9 || b == 13 || b == 10

-- where the byte after this blank stands
abbrev pub after_blank : ℕ → Stand
after_blank b = if b == 10 then Start else Inside

-- where the byte after this one stands; none where this one begins a word
unfoldable pub step : Stand → ℕ → Option Stand
step Start b = if b == byte "c" then Some Comment else (if is_blank b then Some (after_blank b) else None)
step Inside b = if is_blank b then Some (after_blank b) else None
step Comment b = if b == 10 then Some Start else Some Comment

-- whether a word has its end here
abbrev pub ends_word : List ℕ → Bool
ends_word [] = true
ends_word (b ∷ bytes) = is_blank b

-- the byte before the first word
abbrev pub before_first : ℕ → ℕ → List TextWord → List TextWord
before_first b at [] = word_at (b ∷ []) at ∷ []
before_first b at (w ∷ ws) = word_at (b ∷ w.bytes) at ∷ ws

-- the words that a byte begins, where these are those after it
abbrev pub with_byte : ℕ → ℕ → Bool → List TextWord → List TextWord
with_byte b at true ws = word_at (b ∷ []) at ∷ ws
with_byte b at false ws = before_first b at ws

abbrev pub on_step : Option Stand → (Stand → List TextWord) → List TextWord → List TextWord
on_step None on word = word
on_step (Some stand) on word = on stand

-- the words from here on, and last the end
unfoldable pub words : Stand → ℕ → List ℕ → List TextWord
words stand at [] = word_at [] at ∷ []
words stand at (b ∷ bytes) = on_step (step stand b) (λ next. words next (at + 1) bytes) (with_byte b at (ends_word bytes) (words Inside (at + 1) bytes))

-- how many bytes stand before the word's end
unfoldable pub word_length : List ℕ → ℕ
word_length [] = 0
word_length (b ∷ bytes) = if is_blank b then 0 else suc (word_length bytes)

-- the next word is this, and these are the words after it, where it is not the end
pub record IsNextWord (before : List TextWord) (word : TextWord) (after : List TextWord) : Type 0 where
  pub last : word.bytes ≡ [] → before ≡ word ∷ []
  pub more : word.bytes ≢ [] → before ≡ word ∷ after

-- nothing is left, or the first byte begins a word
abbrev pub IsAtWord : Stand → List ℕ → Type 0
IsAtWord stand [] = Unit {0}
IsAtWord stand (b ∷ bytes) = step stand b ≡ None
