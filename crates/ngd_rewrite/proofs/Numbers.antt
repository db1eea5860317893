-- Numbers from 1 on, and those that a test picks.
use Rattle.std.proofs.Common.{◌≡◌, ℕ, zero, suc, ◌+◌, ◌<◌, ◌≤◌, ◌⊎◌, Bool, true, false, cond, ◌&&◌, ◌||◌, eqb, ltb, leb, List, [], ◌∷◌, ◌++◌, length, inl, inr, refl, sym, ap, subst, ◌∙◌, arith}
use Rattle.std.specs.List.{filter, list_any, AllByRecursion}
use Rattle.std.proofs.lemmas.Bool.{eqb-true, eq-eqb, ne_eqb, lt-ltb, le-ltb, lt-leb, le-leb, cases_order}
use Rattle.std.proofs.lemmas.List.{length-append}
use Rattle.dcsp_defs.specs.Words.{In, IsRising}
use Rattle.ngd_rewrite.specs.Upgrade.{numbers}

-- ---- members

-- a member of one of two lists
pub in_append : {X : Type 0} (x : X) (xs ys : List X) → In x (xs ++ ys) → In x xs ⊎ In x ys
in_append x [] ys i = inr i
in_append x (z ∷ xs) ys (inl e) = inl (inl e)
in_append x (z ∷ xs) ys (inr i) = elim (in_append x xs ys i) [ inl j ↦ inl (inr j) | inr j ↦ inr j ]

-- a number from 1 to n
pub in_numbers : (n x : ℕ) → In x (numbers n) → (0 < x) × (x ≤ n)
in_numbers zero x i = absurd i
in_numbers (suc n) x i =
    elim (in_append x (numbers n) (suc n ∷ []) i) [
      | inl j ↦ let h = in_numbers n x j in let a = h.0 in let b = h.1 in (a, omega (arith, b))
      | inr j ↦ elim j [ inl e ↦ (omega (arith, e), omega (arith, e)) | inr k ↦ absurd k ]
    ]

-- what a test picks
pub in_filter : {X : Type 0} (p : X → Bool) (xs : List X) (x : X) → In x (filter p xs) → (In x xs) × (p x ≡ true)
in_filter p [] x i = absurd i
in_filter {X = X} p (y ∷ xs) x i =
    (elim (p y) as (λ b. p y ≡ b → In x (cond b (y ∷ filter p xs) (filter p xs)) → (In x (y ∷ xs)) × (p x ≡ true)) [
      | true ↦ λ e j. by_place e j (in_filter p xs x)
      | false ↦ λ e j. let h = in_filter p xs x j in (inr h.0, h.1)
    ]) refl i
  where
    by_place : p y ≡ true → (x ≡ y) ⊎ In x (filter p xs) → (In x (filter p xs) → (In x xs) × (p x ≡ true)) → (In x (y ∷ xs)) × (p x ≡ true)
    by_place e (inl same) others = (inl same, ap p same ∙ e)
    by_place e (inr j) others = let h = others j in (inr h.0, h.1)

-- ---- tests

-- whether a number is picked
pub any_filter : (p : ℕ → Bool) (xs : List ℕ) (x : ℕ) → list_any (λ y. eqb x y) (filter p xs) ≡ (p x && list_any (λ y. eqb x y) xs)
any_filter p [] x = sym (and_false (p x))
  where
    and_false : (b : Bool) → (b && false) ≡ false
    and_false true = refl
    and_false false = refl
any_filter p (y ∷ xs) x =
    (elim (p y) as (λ b. p y ≡ b → list_any (λ z. eqb x z) (cond b (y ∷ filter p xs) (filter p xs)) ≡ (p x && (eqb x y || list_any (λ z. eqb x z) xs))) [
      | true ↦ λ e. ap (λ b. eqb x y || b) (any_filter p xs x) ∙ picked (eqb x y) refl e
      | false ↦ λ e. any_filter p xs x ∙ passed (eqb x y) refl e
    ]) refl
  where
    picked : (b : Bool) → eqb x y ≡ b → p y ≡ true → (b || (p x && list_any (λ z. eqb x z) xs)) ≡ (p x && (b || list_any (λ z. eqb x z) xs))
    picked true same e = let f : p x ≡ true = ap p (eqb-true x y same) ∙ e in rw f refl
    picked false same e = refl

    passed : (b : Bool) → eqb x y ≡ b → p y ≡ false → (p x && list_any (λ z. eqb x z) xs) ≡ (p x && (b || list_any (λ z. eqb x z) xs))
    passed true same e = let f : p x ≡ false = ap p (eqb-true x y same) ∙ e in rw f refl
    passed false same e = refl

-- a list with one more
pub any_more : (x y : ℕ) (xs : List ℕ) → list_any (λ z. eqb x z) (xs ++ y ∷ []) ≡ (list_any (λ z. eqb x z) xs || eqb x y)
any_more x y [] = or_false (eqb x y)
  where
    or_false : (b : Bool) → (b || false) ≡ b
    or_false true = refl
    or_false false = refl
any_more x y (z ∷ xs) = ap (λ b. eqb x z || b) (any_more x y xs) ∙ or_later (eqb x z) (list_any (λ w. eqb x w) xs) (eqb x y)
  where
    or_later : (a b c : Bool) → (a || (b || c)) ≡ ((a || b) || c)
    or_later true b c = refl
    or_later false b c = refl

-- whether a number is from 1 to n
abbrev pub is_numbered : ℕ → ℕ → Bool
is_numbered n x = ltb 0 x && leb x n

-- it is among the numbers
pub any_numbers : (n x : ℕ) → list_any (λ y. eqb x y) (numbers n) ≡ is_numbered n x
any_numbers zero zero = refl
any_numbers zero (suc x) = sym (ap (λ b. ltb 0 (suc x) && b) (lt-leb (suc x) 0 (omega arith)) ∙ and_false (ltb 0 (suc x)))
  where
    and_false : (b : Bool) → (b && false) ≡ false
    and_false true = refl
    and_false false = refl
any_numbers (suc n) x = any_more x (suc n) (numbers n) ∙ rw (any_numbers n x) (by_number x)
  where
    by_number : (x : ℕ) → (is_numbered n x || eqb x (suc n)) ≡ is_numbered (suc n) x
    by_number zero = ne_eqb 0 (suc n) (λ e. omega (arith, e))
    by_number (suc k) =
        let z : ltb 0 (suc k) ≡ true = lt-ltb 0 (suc k) (omega arith) in
        elim (cases_order (suc k) (suc n)) [
          | inl e ↦
              let a : leb (suc k) n ≡ false = lt-leb (suc k) n (omega (arith, e)) in
              let b : eqb (suc k) (suc n) ≡ true = eq-eqb (suc k) (suc n) e in
              let c : leb (suc k) (suc n) ≡ true = le-leb (suc k) (suc n) (omega (arith, e)) in
              rw (z, a, b, c) refl
          | inr o ↦ elim o [
            | inl lt ↦
                let a : leb (suc k) n ≡ true = le-leb (suc k) n (omega (arith, lt)) in
                let c : leb (suc k) (suc n) ≡ true = le-leb (suc k) (suc n) (omega (arith, lt)) in
                rw (z, a, c) refl
            | inr gt ↦
                let a : leb (suc k) n ≡ false = lt-leb (suc k) n (omega (arith, gt)) in
                let b : eqb (suc k) (suc n) ≡ false = ne_eqb (suc k) (suc n) (λ e. omega (arith, e, gt)) in
                let c : leb (suc k) (suc n) ≡ false = lt-leb (suc k) (suc n) (omega (arith, gt)) in
                rw (z, a, b, c) refl
          ]
        ]

-- ---- counts

-- the numbers below a bound, and those at it
pub count_split : (f : ℕ → ℕ) (k : ℕ) (xs : List ℕ) → length (filter (λ x. ltb (f x) (k + 1)) xs) ≡ length (filter (λ x. ltb (f x) k) xs) + length (filter (λ x. eqb (f x) k) xs)
count_split f k [] = refl
count_split f k (x ∷ xs) =
    let h = count_split f k xs in
    elim (cases_order (f x) k) [
      | inl e ↦
          let a : ltb (f x) (k + 1) ≡ true = lt-ltb (f x) (k + 1) (omega (arith, e)) in
          let b : ltb (f x) k ≡ false = le-ltb (f x) k (omega (arith, e)) in
          let c : eqb (f x) k ≡ true = eq-eqb (f x) k e in
          rw (a, b, c) (omega (arith, h))
      | inr o ↦ elim o [
        | inl lt ↦
            let a : ltb (f x) (k + 1) ≡ true = lt-ltb (f x) (k + 1) (omega (arith, lt)) in
            let b : ltb (f x) k ≡ true = lt-ltb (f x) k lt in
            let c : eqb (f x) k ≡ false = ne_eqb (f x) k (λ e. omega (arith, e, lt)) in
            rw (a, b, c) (omega (arith, h))
        | inr gt ↦
            let a : ltb (f x) (k + 1) ≡ false = le-ltb (f x) (k + 1) (omega (arith, gt)) in
            let b : ltb (f x) k ≡ false = le-ltb (f x) k (omega (arith, gt)) in
            let c : eqb (f x) k ≡ false = ne_eqb (f x) k (λ e. omega (arith, e, gt)) in
            rw (a, b, c) (omega (arith, h))
      ]
    ]

-- no more are picked than there are
pub count_most : {X : Type 0} (p : X → Bool) (xs : List X) → length (filter p xs) ≤ length xs
count_most p [] = omega arith
count_most p (x ∷ xs) =
    let h = count_most p xs in
    (elim (p x) as (λ b. length (cond b (x ∷ filter p xs) (filter p xs)) ≤ length (x ∷ xs)) [ true ↦ omega (arith, h) | false ↦ omega (arith, h) ])

-- so many numbers
pub length-numbers : (n : ℕ) → length (numbers n) ≡ n
length-numbers zero = refl
length-numbers (suc n) = let h = length-numbers n in let l = length-append (numbers n) (suc n ∷ []) in omega (arith, h, l)

-- ---- order

-- rising numbers, and a greater one
rising_more : (xs : List ℕ) (y : ℕ) → IsRising xs → ((x : ℕ) → In x xs → x < y) → IsRising (xs ++ y ∷ [])
rising_more [] y h above = (λ z i. absurd i, tt)
rising_more (x ∷ xs) y h above = (λ z i. elim (in_append z xs (y ∷ []) i) [ inl j ↦ h.0 z j | inr j ↦ elim j [ inl e ↦ subst (λ w. x < w) (sym e) (above x (inl refl)) | inr k ↦ absurd k ] ], rising_more xs y h.1 (λ z i. above z (inr i)))

-- the numbers rise
pub numbers_rise : (n : ℕ) → IsRising (numbers n)
numbers_rise zero = tt
numbers_rise (suc n) = rising_more (numbers n) (suc n) (numbers_rise n) (λ x i. let h = in_numbers n x i in let b = h.1 in omega (arith, b))

-- and so do those that a test picks
pub picked_rise : (p : ℕ → Bool) (xs : List ℕ) → IsRising xs → IsRising (filter p xs)
picked_rise p [] h = tt
picked_rise p (x ∷ xs) h =
    (elim (p x) as (λ b. IsRising (cond b (x ∷ filter p xs) (filter p xs))) [
      | true ↦ (λ y i. h.0 y (in_filter p xs y i).0, picked_rise p xs h.1)
      | false ↦ picked_rise p xs h.1
    ])

-- what holds of each member
pub each_in : (P : ℕ → Type 0) (xs : List ℕ) → ((x : ℕ) → In x xs → P x) → AllByRecursion P xs
each_in P [] f = tt
each_in P (x ∷ xs) f = (f x (inl refl), each_in P xs (λ y i. f y (inr i)))
