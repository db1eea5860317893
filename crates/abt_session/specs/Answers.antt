-- The choices that a run takes from answers.
use Rattle.std.specs.Prelude.{ℕ, zero, suc, ◌+◌, List, [], ◌∷◌, Option, Some, None}

-- the answer, if there is one, and then these
abbrev pub answer_then : Option ℕ → List ℕ → List ℕ
answer_then None choices = []
answer_then (Some choice) choices = choice ∷ choices

-- the answers before the first none, and no more than so many
unfoldable pub first_answers : ℕ → (ℕ → Option ℕ) → List ℕ
first_answers zero answers = []
first_answers (suc most) answers = answer_then (answers 0) (first_answers most (λ k. answers (k + 1)))
