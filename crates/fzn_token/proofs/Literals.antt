-- Literal bytes in a text.
use Rattle.std.proofs.Common.{◌≡◌, ℕ, suc, ◌+◌, ◌-◌, ◌<◌, ◌≤◌, Bool, true, false, List, [], ◌∷◌, length, take, drop, ⊎_elim, arith, sym, ◌∙◌, refl, ap, add-one, drop-cons}
use Rattle.std.specs.Prelude.{slice_index, slice_range, ◌&&◌}
use Rattle.std.specs.List.{list_all}
use Rattle.std.proofs.lemmas.Bool.{cases_lt, false≢true}
use Rattle.fzn_token.specs.Bytes.{IsRun, IsHere}

-- the first byte of a part, and the part after it
pub range_cons : (text : List ℕ) (i j : ℕ) → i < j → j ≤ length text → slice_range text i j ≡ slice_index text i ∷ slice_range text (i + 1) j
range_cons text i j some within =
    let steps : j - i ≡ suc (j - (i + 1)) = omega arith in
    let below : i < length text = omega arith in
    ap (λ n. take n (drop i text)) steps ∙ ap (λ xs. take (suc (j - (i + 1))) xs) (drop-cons text i 0 below) ∙ ap (λ k. slice_index text i ∷ take (j - (i + 1)) (drop k text)) (sym (add-one i))

-- a part that reads so stands there
pub range_here : (bs text : List ℕ) (i j : ℕ) → i ≤ j → j ≤ length text → slice_range text i j ≡ bs → IsHere bs text i j
range_here [] text i j ordered within is = ⊎_elim
    (λ some. absurd (let no : slice_index text i ∷ slice_range text (i + 1) j ≡ [] = sym (range_cons text i j some within) ∙ is in cc))
    (λ none. omega arith)
    (cases_lt i j)
range_here (b ∷ bs) text i j ordered within is = ⊎_elim
    (λ some. let parts : slice_index text i ∷ slice_range text (i + 1) j ≡ b ∷ bs = sym (range_cons text i j some within) ∙ is in
    (omega arith, (cc), range_here bs text (i + 1) j (omega arith) within (cc)))
    (λ none. let empty : slice_range text i j ≡ [] = (let zero_long : j - i ≡ 0 = omega arith in ap (λ n. take n (drop i text)) zero_long) in absurd (let no : [] ≡ b ∷ bs = sym empty ∙ is in cc))
    (cases_lt i j)

-- literal bytes end no earlier than they begin
pub here_ordered : (bs text : List ℕ) (i j : ℕ) → IsHere bs text i j → i ≤ j
here_ordered [] text i j h = omega arith
here_ordered (b ∷ bs) text i j h = let rest = here_ordered bs text (i + 1) j h.2 in omega arith

-- literal bytes end within the text
pub here_within : (bs text : List ℕ) (i j : ℕ) → i ≤ length text → IsHere bs text i j → j ≤ length text
here_within [] text i j within h = omega arith
here_within (b ∷ bs) text i j within h = here_within bs text (i + 1) j (omega (arith, h.0)) h.2

-- where literal bytes stand, the part reads so
pub here_range : (bs text : List ℕ) (i j : ℕ) → i ≤ length text → IsHere bs text i j → slice_range text i j ≡ bs
here_range [] text i j within h = let zero_long : j - i ≡ 0 = omega arith in ap (λ n. take n (drop i text)) zero_long
here_range (b ∷ bs) text i j within h =
    range_cons text i j (let rest = here_ordered bs text (i + 1) j h.2 in omega arith) (here_within (b ∷ bs) text i j within h) ∙ ap (λ c. c ∷ slice_range text (i + 1) j) h.1 ∙ ap (λ xs. b ∷ xs) (here_range bs text (i + 1) j (omega (arith, h.0)) h.2)

-- the first of two tests passes
and_first : (a b : Bool) → (a && b) ≡ true → a ≡ true
and_first true b e = refl
and_first false b e = e

-- the second of two tests passes
and_second : (a b : Bool) → (a && b) ≡ true → b ≡ true
and_second true b e = e
and_second false b e = absurd (false≢true e)

-- literal bytes that all pass are a run
pub here_run : (p : ℕ → Bool) (bs text : List ℕ) (i j : ℕ) → i ≤ length text → list_all p bs ≡ true → IsHere bs text i j → IsRun p text i j
here_run p [] text i j within pass h = record { ordered = omega arith; within = omega arith; each = λ k from before. (let no : ⊥ = omega arith in absurd no) }
here_run p (b ∷ bs) text i j within pass h =
    let first = and_first (p b) (list_all p bs) pass in
    let rest = here_run p bs text (i + 1) j (omega (arith, h.0)) (and_second (p b) (list_all p bs) pass) h.2 in
    record {
      ordered = omega (arith, rest.ordered);
      within = rest.within;
      each = λ k from before. ⊎_elim (λ here. rest.each k (omega arith) before) (λ here. let same : k ≡ i = omega arith in rw (same, h.1) first) (cases_lt i k);
    }
