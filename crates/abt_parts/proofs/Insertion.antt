-- Rising lists of agents, and one agent more in its place.
use Rattle.std.proofs.Common.{◌≡◌, ◌≢◌, ℕ, zero, suc, ◌<◌, ◌≤◌, Bool, true, false, cond, ◌||◌, ◌==◌, List, [], ◌∷◌, ◌++◌, filter, take, drop, get_or, length, refl, sym, ap, subst, ◌∙◌, arith, inl, inr}
use Rattle.std.proofs.Math.Bool.{or-false, or_assoc, or_comm}
use Rattle.std.proofs.lemmas.Bool.{cases_lt, eqb-true, ltb-true, or_cases, or_right}
use Rattle.std.proofs.lemmas.Bool.Decides.{eqb_tells}
use Rattle.std.proofs.lemmas.List.{append-nil, take-append-drop}
use Rattle.std.proofs.lemmas.List.Folds.{list_any-append}
use Rattle.dcsp_defs.specs.Words.{In, IsRising, below, update}
use Rattle.abt_defs.specs.Agents.{is_among}
use Rattle.abt_parts.proofs.Members.{In-get_or, In_among, among_In, among-below, In-filtered}

among_more : (xs ys : List ℕ) (v k : ℕ) → is_among k (xs ++ v ∷ ys) ≡ (is_among k (xs ++ ys) || (k == v))
among_more xs ys v k =
    list_any-append (λ x. k == x) xs (v ∷ ys)
    ∙ ap (λ b. is_among k xs || b) (or_comm (k == v) (is_among k ys))
    ∙ sym (or_assoc (is_among k xs) (is_among k ys) (k == v))
    ∙ ap (λ b. b || (k == v)) (sym (list_any-append (λ x. k == x) xs ys))

rising_between : (xs ys : List ℕ) (v : ℕ) → IsRising (xs ++ ys) → ((k : ℕ) → In k xs → k < v) → ((k : ℕ) → In k ys → v < k) → IsRising (xs ++ v ∷ ys)
rising_between [] ys v up low high = (high, up)
rising_between (x ∷ xs) ys v up low high = (
  λ k i. elim (or_cases (is_among k (xs ++ ys)) (k == v) (sym (among_more xs ys v k) ∙ In_among k (xs ++ v ∷ ys) i)) [
    | inl e ↦ up.0 k (among_In k (xs ++ ys) e)
    | inr e ↦ subst (λ (z : ℕ). x < z) (sym (eqb-true k v e)) (low x (inl refl))
  ],
  rising_between xs ys v up.1 (λ k i. low k (inr i)) high,
)

below_rises : (n : ℕ) → IsRising (below n)
below_rises zero = tt
below_rises (suc n) =
    rising_between (below n) [] n (subst IsRising (sym (append-nil (below n))) (below_rises n)) (λ k i. ltb-true k n (sym (among-below k n) ∙ In_among k (below n) i)) (λ k i. absurd i)

-- a part of a rising list rises
pub part_rises : (q : ℕ → Bool) (xs : List ℕ) → IsRising xs → IsRising (filter q xs)
part_rises q [] up = tt
part_rises q (x ∷ xs) up = by_test (q x) (part_rises q xs up.1)
  where
    by_test : (b : Bool) → IsRising (filter q xs) → IsRising (cond b (x ∷ filter q xs) (filter q xs))
    by_test true h = (λ k i. up.0 k (among_In k xs (In-filtered q k xs i).1), h)
    by_test false h = h

pub rising-filter_below : (q : ℕ → Bool) (n : ℕ) → IsRising (filter q (below n))
rising-filter_below q n = part_rises q (below n) (below_rises n)

-- numbers at later places are greater
rising_at : (xs : List ℕ) (i j : ℕ) → IsRising xs → i < j → j < length xs → get_or xs i 0 < get_or xs j 0
rising_at [] i j up l h = absurd (omega arith)
rising_at (x ∷ xs) i zero up l h = absurd (omega arith)
rising_at (x ∷ xs) zero (suc j) up l h = up.0 (get_or xs j 0) (In-get_or xs j 0 (omega arith))
rising_at (x ∷ xs) (suc i) (suc j) up l h = rising_at xs i j up.1 (omega arith) (omega arith)

-- so from the first that is not below v on all are not
pub not_below : (xs : List ℕ) (i v : ℕ) → IsRising xs → v ≤ get_or xs i 0 → (k : ℕ) → i ≤ k → k < length xs → v ≤ get_or xs k 0
not_below xs i v up least k l h = elim (cases_lt i k) [
  | inl before ↦ let more = rising_at xs i k up before h in omega arith
  | inr past ↦ let same : i ≡ k = omega arith in subst (λ (z : ℕ). v ≤ get_or xs z 0) same least
]

low : (xs : List ℕ) (n v : ℕ) → ((k : ℕ) → k < n → k < length xs → get_or xs k 0 < v) → (k : ℕ) → In k (take n xs) → k < v
low [] zero v h k i = absurd i
low [] (suc n) v h k i = absurd i
low (x ∷ xs) zero v h k i = absurd i
low (x ∷ xs) (suc n) v h k (inl e) = let first = h 0 (omega arith) (omega arith) in subst (λ (z : ℕ). z < v) (sym e) first
low (x ∷ xs) (suc n) v h k (inr i) = low xs n v (λ j l m. h (suc j) (omega arith) (omega arith)) k i

high : (xs : List ℕ) (n v : ℕ) → ((k : ℕ) → n ≤ k → k < length xs → v ≤ get_or xs k 0) → (k : ℕ) → In k (drop n xs) → v ≤ k
high [] zero v h k i = absurd i
high [] (suc n) v h k i = absurd i
high (x ∷ xs) zero v h k (inl e) = let first = h 0 (omega arith) (omega arith) in subst (λ (z : ℕ). v ≤ z) (sym e) first
high (x ∷ xs) zero v h k (inr i) = high xs zero v (λ j l m. h (suc j) (omega arith) (omega arith)) k i
high (x ∷ xs) (suc n) v h k i = high xs n v (λ j l m. h (suc j) (omega arith) (omega arith)) k i

module _ (xs : List ℕ) (n v : ℕ) where
  pub put_rises : IsRising xs → is_among v xs ≡ false → ((k : ℕ) → k < n → k < length xs → get_or xs k 0 < v) → ((k : ℕ) → n ≤ k → k < length xs → v ≤ get_or xs k 0)
      → IsRising (take n xs ++ v ∷ drop n xs)
  put_rises up absent before after =
      rising_between (take n xs) (drop n xs) v (subst IsRising (sym (take-append-drop n xs)) up) (low xs n v before)
      (λ k i. let most = high xs n v after k i in let apart = differs k i in omega arith)
    where
      differs : (k : ℕ) → In k (drop n xs) → v ≢ k
      differs k i e =
          let there = or_right (is_among v (take n xs)) (is_among v (drop n xs)) (ap (λ z. is_among z (drop n xs)) e ∙ In_among k (drop n xs) i) in
          let absent_there : false ≡ true = sym absent ∙ ap (is_among v) (sym (take-append-drop n xs)) ∙ list_any-append (λ x. v == x) (take n xs) (drop n xs) ∙ there in
          cc

  pub put_among : (k : ℕ) → is_among k (take n xs ++ v ∷ drop n xs) ≡ (is_among k xs || (k == v))
  put_among k = among_more (take n xs) (drop n xs) v k ∙ ap (λ z. is_among k z || (k == v)) (take-append-drop n xs)

-- one that is there already
pub there_among : (xs : List ℕ) (v k : ℕ) → is_among v xs ≡ true → is_among k xs ≡ (is_among k xs || (k == v))
there_among xs v k e = elim (eqb_tells k v) [
  | inl t ↦ let all : is_among k xs ≡ true = ap (λ z. is_among z xs) t.1 ∙ e in ap (λ b. b) all ∙ sym (ap (λ b. b || (k == v)) all)
  | inr t ↦ sym (or-false (is_among k xs)) ∙ ap (λ b. is_among k xs || b) (sym t.0)
]

module _ (old new : List ℕ) (from : ℕ) (among : (k : ℕ) → is_among k new ≡ (is_among k old || (k == from))) where
  pub told_more : (k : ℕ) → is_among k new ≡ update (λ j. is_among j old) from true k
  told_more k = among k ∙ swapped (is_among k old) (k == from)
    where
      swapped : (a b : Bool) → (a || b) ≡ cond b true a
      swapped true true = refl
      swapped true false = refl
      swapped false true = refl
      swapped false false = refl

  pub exist_more : (n : ℕ) → from < n → ((k : ℕ) → In k old → k < n) → (k : ℕ) → In k new → k < n
  exist_more n there all k i = elim (or_cases (is_among k old) (k == from) (sym (among k) ∙ In_among k new i)) [
    | inl e ↦ all k (among_In k old e)
    | inr e ↦ subst (λ (z : ℕ). z < n) (sym (eqb-true k from e)) there
  ]
