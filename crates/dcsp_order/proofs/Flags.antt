-- Flags that are set, and the rows in which they stand.
use Rattle.std.proofs.Common.{◌≡◌, ℕ, ◌+◌, ◌*◌, ◌<◌, ◌≤◌, Bool, true, false, ◌&&◌, ◌||◌, List, [], ◌∷◌, length, take, set, get_or, inl, inr, refl, sym, ap, ◌∙◌, arith, length-set, get_or-set_same, get_or-set_other}
use Rattle.std.specs.Prelude.{◌==◌}
use Rattle.std.specs.List.{list_any}
use Rattle.std.proofs.lemmas.Bool.{cases_lt}
use Rattle.std.proofs.lemmas.Bool.Decides.{eqb_tells}
use Rattle.std.proofs.lemmas.List.{take_more}
use Rattle.std.proofs.lemmas.List.Folds.{list_any-append}
use Rattle.std.proofs.lemmas.Nat.{mul-le}
use Rattle.dcsp_defs.specs.Words.{In}
use Rattle.dcsp_order.specs.ByRule.{is_among}
use Rattle.dcsp_order.specs.Taken.{flag_at}
use Rattle.dcsp_order.specs.Shared.{Sets, is_in_row, is_in_rows}

-- ---- tests

or_false : (a b : Bool) → b ≡ false → a ≡ (a || b)
or_false true b e = refl
or_false false b e = sym e

or_more : (a b c : Bool) → ((a || b) || c) ≡ (a || (b || c))
or_more true b c = refl
or_more false b c = refl

-- one item more
pub any_more : {X : Type 0} → (f : X → Bool) (xs : List X) (i : ℕ) (d : X) → i < length xs → (list_any f (take i xs) || f (get_or xs i d)) ≡ list_any f (take (i + 1) xs)
any_more f xs i d l =
    let last : list_any f (get_or xs i d ∷ []) ≡ f (get_or xs i d) = at (f (get_or xs i d)) in
    ap (λ b. list_any f (take i xs) || b) (sym last)
    ∙ sym (list_any-append f (take i xs) (get_or xs i d ∷ []))
    ∙ ap (list_any f) (sym (take_more xs i d l))
  where
    at : (b : Bool) → (b || false) ≡ b
    at true = refl
    at false = refl

pub same_any : {X : Type 0} → (f g : X → Bool) (xs : List X) → ((x : X) → In x xs → f x ≡ g x) → list_any f xs ≡ list_any g xs
same_any f g [] same = refl
same_any f g (x ∷ xs) same = ap (λ b. b || list_any f xs) (same x (inl refl)) ∙ ap (λ b. g x || b) (same_any f g xs (λ y i. same y (inr i)))

-- ---- flags

pub sets_nothing : (test : ℕ → Bool) (flags : List Bool) → ((place : ℕ) → test place ≡ false) → Sets test flags flags
sets_nothing test flags none = record { as_many = refl; each = λ place l. or_false (flag_at flags place) (test place) (none place) }

pub sets_one : (flags : List Bool) (at : ℕ) → at < length flags → Sets (λ place. place == at) flags (set flags at true)
sets_one flags at there = record {
  as_many = length-set flags at true;
  each = λ place l. elim (eqb_tells place at) [
    | inl t ↦ here place t.1 ∙ set_true (flag_at flags place) ∙ ap (λ b. flag_at flags place || b) (sym t.0)
    | inr t ↦ get_or-set_other flags at place true false t.1 ∙ or_false (flag_at flags place) (place == at) t.0
  ];
} where
  here : (place : ℕ) → place ≡ at → flag_at (set flags at true) place ≡ true
  here place e = ap (flag_at (set flags at true)) e ∙ get_or-set_same flags at true false there

  set_true : (a : Bool) → true ≡ (a || true)
  set_true true = refl
  set_true false = refl

pub sets_then : (t u w : ℕ → Bool) (a b c : List Bool) → ((place : ℕ) → (t place || u place) ≡ w place) → Sets t a b → Sets u b c → Sets w a c
sets_then t u w a b c same first second = record {
  as_many = second.as_many ∙ first.as_many;
  each = λ place l.
      second.each place (let e = first.as_many in omega (arith, e, l))
      ∙ ap (λ z. z || u place) (first.each place l)
      ∙ or_more (flag_at a place) (t place) (u place)
      ∙ ap (λ z. flag_at a place || z) (same place);
}

-- ---- rows

next_row : (n i a : ℕ) → i < a → i * n + n ≤ a * n
next_row n i a l = let m = mul-le (i + 1) n a n (omega (arith, l)) (omega arith) in omega (arith, m)

-- a place of a square
pub place_low : (n i k : ℕ) → i < n → k < n → i * n + k < n * n
place_low n i k li lk = let m = next_row n i n li in omega (arith, m, lk)

not_same : (n i k a b : ℕ) → k < n → i < a → i * n + k ≡ a * n + b → ⊥
not_same n i k a b lk l e = let m = next_row n i a l in omega (arith, m, lk, e)

one_row : (n i k a b : ℕ) → k < n → b < n → i * n + k ≡ a * n + b → i ≡ a
one_row n i k a b lk lb e = elim (cases_lt i a) [
  | inl l ↦ absurd (not_same n i k a b lk l e)
  | inr g ↦ elim (cases_lt a i) [ inl l ↦ absurd (not_same n a b i k lb l (sym e)) | inr h ↦ omega (arith, g, h) ]
]

test_true : (x y : ℕ) → x ≡ y → (x == y) ≡ true
test_true x y e = elim (eqb_tells x y) [ inl t ↦ t.0 | inr t ↦ absurd (t.1 e) ]

test_false : (x y : ℕ) → (x ≡ y → ⊥) → (x == y) ≡ false
test_false x y n = elim (eqb_tells x y) [ inl t ↦ absurd (n t.1) | inr t ↦ t.0 ]

-- one place is of one row and one column
one_cell : (n i k r c : ℕ) → k < n → c < n → (i * n + k == r * n + c) ≡ ((r == i) && (c == k))
one_cell n i k r c lk lc = elim (eqb_tells r i) [
  | inl t ↦ elim (eqb_tells c k) [
    | inl u ↦ test_true (i * n + k) (r * n + c) (ap (λ z. z * n + k) (sym t.1) ∙ ap (λ z. r * n + z) (sym u.1)) ∙ sym (ap (λ b. b && (c == k)) t.0 ∙ u.0)
    | inr u ↦ test_false (i * n + k) (r * n + c) (λ e. u.1 (let f : r * n + k ≡ r * n + c = ap (λ z. z * n + k) t.1 ∙ e in omega (arith, f))) ∙ sym (ap (λ b. b && (c == k)) t.0 ∙ u.0)
  ]
  | inr t ↦ test_false (i * n + k) (r * n + c) (λ e. t.1 (sym (one_row n i k r c lk lc e))) ∙ sym (ap (λ b. b && (c == k)) t.0)
]

both_and : (a x y : Bool) → ((a && x) || (a && y)) ≡ (a && (x || y))
both_and true x y = refl
both_and false x y = refl

and_both_of : (a b z : Bool) → ((a && z) || (b && z)) ≡ ((a || b) && z)
and_both_of true true true = refl
and_both_of true true false = refl
and_both_of true false true = refl
and_both_of true false false = refl
and_both_of false b z = refl

no_and : (a : Bool) → false ≡ (a && false)
no_and true = refl
no_and false = refl

row_is : (n i k r : ℕ) (columns : List ℕ) → k < n → ((c : ℕ) → In c columns → c < n) → is_in_row (r * n) columns (i * n + k) ≡ ((r == i) && is_among k columns)
row_is n i k r [] lk low = no_and (r == i)
row_is n i k r (c ∷ columns) lk low =
    ap (λ b. b || is_in_row (r * n) columns (i * n + k)) (one_cell n i k r c lk (low c (inl refl)))
    ∙ ap (λ b. ((r == i) && (c == k)) || b) (row_is n i k r columns lk (λ d j. low d (inr j)))
    ∙ both_and (r == i) (c == k) (is_among k columns)

-- whether a place is set says whether row and column are among these
pub rows_are : (n i k : ℕ) (columns rows : List ℕ) → k < n → ((c : ℕ) → In c columns → c < n) → is_in_rows n columns rows (i * n + k) ≡ (is_among i rows && is_among k columns)
rows_are n i k columns [] lk low = refl
rows_are n i k columns (r ∷ rows) lk low =
    ap (λ b. b || is_in_rows n columns rows (i * n + k)) (row_is n i k r columns lk low)
    ∙ ap (λ b. ((r == i) && is_among k columns) || b) (rows_are n i k columns rows lk low)
    ∙ and_both_of (r == i) (is_among i rows) (is_among k columns)
