-- Texts that take random words.
use Rattle.std.specs.Prelude.{◌≡◌, ℕ, suc, List, [], ◌∷◌, ◌++◌}
use Rattle.rand_pcg.specs.Lcg.{Lcg}
use Rattle.abt_schedule.specs.Answers.{word_at}

-- what is made of the items in order, each with a word of its own
abbrev pub with_words : {X : Type 0} → (ℕ → X → List ℕ) → (ℕ → ℕ) → List X → List ℕ
with_words make words [] = []
with_words make words (x ∷ xs) = make (words 0) x ++ with_words make (λ k. words (suc k)) xs

-- a text has gained what is made of these items, each with a word of its own; the words after them are left
abbrev pub TakesWords : {X : Type 0} → (ℕ → X → List ℕ) → List X → List ℕ → Lcg → List ℕ → Lcg → Type 0
TakesWords {X} make items old words new left = (later : List X) → new ++ with_words make (word_at left) later ≡ old ++ with_words make (word_at words) (items ++ later)
