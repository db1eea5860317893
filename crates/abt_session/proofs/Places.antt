-- Places in a list of choices, and the answers that the list is made of.
use Rattle.std.proofs.Common.{◌≡◌, ℕ, zero, suc, ◌+◌, ◌<◌, ◌≤◌, List, [], ◌∷◌, ◌++◌, take, drop, length, Option, Some, None, slice_get, refl, sym, ap, ◌∙◌, arith}
use Rattle.abt_session.specs.Answers.{answer_then, first_answers}

-- the item at a place, and what is before it
pub record At {X : Type 0} (xs : List X) (k : ℕ) (x : X) : Type 0 where
  pub front : take (k + 1) xs ≡ take k xs ++ x ∷ []
  pub within : k < length xs

pub at_place : {X : Type 0} (xs : List X) (k : ℕ) (x : X) → slice_get xs k ≡ Some x → At xs k x
at_place [] k x h = cc
at_place (y ∷ ys) zero x h = let e : y ≡ x = cc in record { front = ap (λ z. z ∷ []) e; within = omega arith }
at_place (y ∷ ys) (suc k) x h =
    let r = at_place ys k x h in
    let n : suc k + 1 ≡ suc (k + 1) = omega arith in
    record { front = rw n (ap (λ l. y ∷ l) r.front); within = let w = r.within in omega arith }

-- before a list's end there is an item
pub some_at : {X : Type 0} (xs : List X) (k : ℕ) → k < length xs → (x : X) × (slice_get xs k ≡ Some x)
some_at [] k l = absurd (omega arith)
some_at (x ∷ xs) zero l = (x, refl)
some_at (x ∷ xs) (suc k) l = some_at xs k (omega arith)

-- past a list's end there is none
pub past_end : {X : Type 0} (xs : List X) (k : ℕ) → slice_get xs k ≡ None → length xs ≤ k
past_end [] k h = omega arith
past_end (x ∷ xs) zero h = cc
past_end (x ∷ xs) (suc k) h = let l = past_end xs k h in omega arith

-- a list is used up at its end
pub used_up : {X : Type 0} (xs : List X) (k : ℕ) → drop k xs ≡ [] → length xs ≤ k
used_up [] k h = omega arith
used_up (x ∷ xs) zero h = cc
used_up (x ∷ xs) (suc k) h = let l = used_up xs k h in omega arith

-- the choices are the answers
pub answers_at : (n : ℕ) (f : ℕ → Option ℕ) (k : ℕ) → k < n → k ≤ length (first_answers n f) → slice_get (first_answers n f) k ≡ f k
unfolding first_answers
answers_at zero f k l w = absurd (omega arith)
answers_at (suc n) f k l w = by_answer (f 0) refl k (λ j. answers_at n (λ i. f (i + 1)) j) l w
  where
    by_answer : (o : Option ℕ) → f 0 ≡ o → (k : ℕ) → ((j : ℕ) → j < n → j ≤ length (first_answers n (λ i. f (i + 1))) → slice_get (first_answers n (λ i. f (i + 1))) j ≡ f (j + 1))
        → k < suc n → k ≤ length (answer_then o (first_answers n (λ j. f (j + 1)))) → slice_get (answer_then o (first_answers n (λ j. f (j + 1)))) k ≡ f k
    by_answer None e zero ih l w = sym e
    by_answer None e (suc k) ih l w = absurd (omega arith)
    by_answer (Some c) e zero ih l w = sym e
    by_answer (Some c) e (suc k) ih l w = let n : k + 1 ≡ suc k = omega arith in ih k (omega arith) (omega arith) ∙ ap f n

-- there are no more choices than were asked for
pub no_more : (n : ℕ) (f : ℕ → Option ℕ) → length (first_answers n f) ≤ n
unfolding first_answers
no_more zero f = omega arith
no_more (suc n) f = by_answer (f 0) (no_more n (λ k. f (k + 1)))
  where
    by_answer : (o : Option ℕ) → length (first_answers n (λ k. f (k + 1))) ≤ n → length (answer_then o (first_answers n (λ k. f (k + 1)))) ≤ suc n
    by_answer None l = omega arith
    by_answer (Some c) l = omega arith
