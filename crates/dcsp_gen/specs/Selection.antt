-- Selection in order: things are gone through one after another, each with a word of its own, and so many of them are chosen.
use Rattle.std.specs.Prelude.{ℕ, zero, suc, ◌-◌, ◌%◌, Bool, not, List, [], ◌∷◌, length, nat_lt, if◌then◌else◌}
use Rattle.std.specs.List.{range_with_len}

-- the words after so many
abbrev pub words_after : ℕ → (ℕ → ℕ) → ℕ → ℕ
words_after zero words = words
words_after (suc count) words = words_after count (λ k. words (suc k))

-- whether a word chooses a thing, where so many are still to be chosen of those that are left, this one included
abbrev pub chooses : ℕ → ℕ → ℕ → Bool
chooses word wanted left = nat_lt (word % left) wanted

-- how many are to be chosen after it
abbrev pub wanted_after : Bool → ℕ → ℕ
wanted_after chosen wanted = if chosen then wanted - 1 else wanted

-- those of the things that are chosen, or where this is false those that are not
abbrev pub selected : {X : Type 0} → Bool → (ℕ → ℕ) → ℕ → List X → List X
selected kept words wanted [] = []
selected kept words wanted (x ∷ xs) =
    let chosen = chooses (words 0) wanted (suc (length xs)) in
    let rest = selected kept (λ k. words (suc k)) (wanted_after chosen wanted) xs in if (if kept then chosen else not chosen) then x ∷ rest else rest

-- so many selections among the numbers 1 to high, one after another
abbrev pub selections : Bool → (ℕ → ℕ) → ℕ → ℕ → ℕ → List (List ℕ)
selections kept words wanted high zero = []
selections kept words wanted high (suc count) = selected kept words wanted (range_with_len 1 high) ∷ selections kept (words_after high words) wanted high count
