-- Sums over the numbers below n, and how many items pass a test.
use Rattle.std.proofs.Common.{◌≡◌, ◌≢◌, ℕ, zero, suc, ◌+◌, ◌<◌, ◌≤◌, Bool, true, false, ◌⊎◌, inl, inr, List, [], ◌∷◌, length, ℤ, refl, sym, ap, ◌∙◌, arith}
use Rattle.std.proofs.lemmas.Bool.Decides.{eqb_tells}
use Rattle.dcsp_defs.specs.Words.{In, sum_below}
use Rattle.law_agent.proofs.Facts.{bit}
use native.Mathlib.Decide.{dec_lt}

pub sum-add : (f g : ℕ → ℕ) (n : ℕ) → sum_below (λ k. f k + g k) n ≡ sum_below f n + sum_below g n
sum-add f g zero = omega arith
sum-add f g (suc n) = let h = sum-add f g n in omega arith

pub sum-le : (f g : ℕ → ℕ) (n : ℕ) → ((k : ℕ) → k < n → f k ≤ g k) → sum_below f n ≤ sum_below g n
sum-le f g zero h = omega arith
sum-le f g (suc n) h = let r = sum-le f g n (λ k l. h k (omega arith)) in let e = h n (omega arith) in omega arith

pub sum-same : (f g : ℕ → ℕ) (n : ℕ) → ((k : ℕ) → k < n → f k ≡ g k) → sum_below f n ≡ sum_below g n
sum-same f g zero h = refl
sum-same f g (suc n) h = let r = sum-same f g n (λ k l. h k (omega arith)) in let e = h n (omega arith) in omega arith

pub sum-zero : (f : ℕ → ℕ) (n : ℕ) → ((k : ℕ) → k < n → f k ≡ 0) → sum_below f n ≡ 0
sum-zero f zero h = refl
sum-zero f (suc n) h = let r = sum-zero f n (λ k l. h k (omega arith)) in let e = h n (omega arith) in omega arith

-- where all but one are 0
pub sum-at : (f : ℕ → ℕ) (i n : ℕ) → i < n → ((k : ℕ) → k ≢ i → f k ≡ 0) → sum_below f n ≡ f i
sum-at f i zero l h = absurd (omega arith)
sum-at f i (suc n) l h = elim (eqb_tells n i) [
  | inl t ↦ let z : sum_below f n ≡ 0 = sum-zero f n (λ k u. h k (let e : n ≡ i = t.1 in omega arith)) in let e : f n ≡ f i = ap f t.1 in omega arith
  | inr t ↦ let ne : n ≢ i = t.1 in let z : f n ≡ 0 = h n t.1 in let r : sum_below f n ≡ f i = sum-at f i n (omega arith) h in omega arith
]

pub sum-at_most : (f : ℕ → ℕ) (i n : ℕ) → ((k : ℕ) → k ≢ i → f k ≡ 0) → sum_below f n ≤ f i
sum-at_most f i zero h = omega arith
sum-at_most f i (suc n) h = elim (eqb_tells n i) [
  | inl t ↦ let z : sum_below f n ≡ 0 = sum-zero f n (λ k u. h k (let e : n ≡ i = t.1 in omega arith)) in let e : f n ≡ f i = ap f t.1 in omega arith
  | inr t ↦ let z : f n ≡ 0 = h n t.1 in let r : sum_below f n ≤ f i = sum-at_most f i n h in omega arith
]

-- where all from i on are 0
pub sum-cut : (f : ℕ → ℕ) (i n : ℕ) → ((k : ℕ) → i ≤ k → f k ≡ 0) → sum_below f n ≤ sum_below f i
sum-cut f i zero h = omega arith
sum-cut f i (suc n) h = elim (lt_or_le n i) [
  | inl l ↦ sum-shorter f (suc n) i l
  | inr g ↦ let z : f n ≡ 0 = h n g in let r = sum-cut f i n h in omega arith
]
  where
    lt_or_le : (a b : ℕ) → (a < b) ⊎ (b ≤ a)
    lt_or_le a b = elim (dec_lt a b) [ yes l ↦ inl l | no g ↦ inr (omega arith) ]

    sum-shorter : (f : ℕ → ℕ) (m n : ℕ) → m ≤ n → sum_below f m ≤ sum_below f n
    sum-shorter f m zero l = let e : m ≡ 0 = omega arith in rw e (omega arith)
    sum-shorter f m (suc n) l = elim (eqb_tells m (suc n)) [
      | inl t ↦ rw t.1 (omega arith)
      | inr t ↦ let ne : m ≢ suc n = t.1 in let r : sum_below f m ≤ sum_below f n = sum-shorter f m n (omega arith) in omega arith
    ]

-- how many pass
abbrev pub how_many : (ℤ → Bool) → List ℤ → ℕ
how_many q [] = 0
how_many q (x ∷ xs) = bit (q x) + how_many q xs

bit_le : (a b : Bool) → (a ≡ true → b ≡ true) → bit a ≤ bit b
bit_le true b h = let e : b ≡ true = h refl in rw e (omega arith)
bit_le false b h = omega arith

pub bit_most : (a : Bool) → bit a ≤ 1
bit_most true = omega arith
bit_most false = omega arith

pub how_many-le : (q r : ℤ → Bool) (xs : List ℤ) → ((x : ℤ) → q x ≡ true → r x ≡ true) → how_many q xs ≤ how_many r xs
how_many-le q r [] h = omega arith
how_many-le q r (x ∷ xs) h = let a = bit_le (q x) (r x) (h x) in let b = how_many-le q r xs h in omega arith

pub how_many-all : (q : ℤ → Bool) (xs : List ℤ) → how_many q xs ≤ length xs
how_many-all q [] = omega arith
how_many-all q (x ∷ xs) = let a = bit_most (q x) in let b = how_many-all q xs in omega arith

-- one more passes
pub how_many-more : (q r : ℤ → Bool) (v : ℤ) (xs : List ℤ) → ((x : ℤ) → q x ≡ true → r x ≡ true) → In v xs → q v ≡ false → r v ≡ true → how_many q xs + 1 ≤ how_many r xs
how_many-more q r v [] h i a b = absurd i
how_many-more q r v (x ∷ xs) h (inl e) a b =
    let c : q x ≡ false = ap q (sym e) ∙ a in let d : r x ≡ true = ap r (sym e) ∙ b in let l = how_many-le q r xs h in rw (c, d) (omega arith)
how_many-more q r v (x ∷ xs) h (inr i) a b = let c = bit_le (q x) (r x) (h x) in let d = how_many-more q r v xs h i a b in omega arith

pub how_many-one : (r : ℤ → Bool) (v : ℤ) (xs : List ℤ) → In v xs → r v ≡ true → 1 ≤ how_many r xs
how_many-one r v [] i b = absurd i
how_many-one r v (x ∷ xs) (inl e) b = let d : r x ≡ true = ap r (sym e) ∙ b in rw d (omega arith)
how_many-one r v (x ∷ xs) (inr i) b = let d = how_many-one r v xs i b in omega arith

-- where one term rises and none falls, the sum rises
pub sum-more : (f g : ℕ → ℕ) (i n : ℕ) → i < n → ((k : ℕ) → f k ≤ g k) → f i < g i → 1 + sum_below f n ≤ sum_below g n
sum-more f g i zero l h m = absurd (omega arith)
sum-more f g i (suc n) l h m = elim (eqb_tells i n) [
  | inl t ↦ let r = sum-le f g n (λ k u. h k) in let e : f i ≡ f n = ap f t.1 in let e2 : g i ≡ g n = ap g t.1 in omega arith
  | inr t ↦ let ne : i ≢ n = t.1 in let r = sum-more f g i n (omega arith) h m in let q = h n in omega arith
]
