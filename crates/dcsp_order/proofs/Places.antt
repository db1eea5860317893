-- Numbers and their places.
use Rattle.std.proofs.Common.{◌≡◌, ◌≢◌, ℕ, zero, suc, ◌+◌, ◌<◌, ◌≤◌, Bool, true, false, not, cond, List, [], ◌∷◌, filter, length, get_or, refl, sym, ap, ◌∙◌, inl, inr, subst, arith, add-one}
use Rattle.std.specs.Prelude.{◌==◌, if◌then◌else◌}
use Rattle.std.specs.List.{list_any}
use Rattle.std.proofs.lemmas.Bool.Decides.{eqb_tells}
use Rattle.dcsp_defs.specs.Words.{In}
use Rattle.dcsp_defs.proofs.Lists.{list_any-In, In-list_any, filter-from}
use Rattle.dcsp_order.specs.Orders.{number_at, place_of, IsDistinct, IsOrder}

-- the first number stands first
place_here : (first number : ℕ) (order : List ℕ) → (number == first) ≡ true → place_of (first ∷ order) number ≡ 0
place_here first number order e = ap (λ (b : Bool). if b then 0 else place_of order number + 1) e

place_there : (first number : ℕ) (order : List ℕ) → (number == first) ≡ false → place_of (first ∷ order) number ≡ suc (place_of order number)
place_there first number order e = ap (λ (b : Bool). if b then 0 else place_of order number + 1) e ∙ add-one (place_of order number)

in_rest : (first number : ℕ) (order : List ℕ) → In number (first ∷ order) → number ≢ first → In number order
in_rest first number order (inl e) other = absurd (other e)
in_rest first number order (inr i) other = i

pub place_low : (order : List ℕ) (number : ℕ) → In number order → place_of order number < length order
place_low [] number i = absurd i
place_low (first ∷ order) number i = elim (eqb_tells number first) [
  | inl t ↦ let here = place_here first number order t.0 in omega (arith, here)
  | inr t ↦ let there = place_there first number order t.0 in let low = place_low order number (in_rest first number order i t.1) in omega (arith, there, low)
]

-- the number at the place of a number is that number
pub number_there : (order : List ℕ) (number d : ℕ) → In number order → get_or order (place_of order number) d ≡ number
number_there [] number d i = absurd i
number_there (first ∷ order) number d i = elim (eqb_tells number first) [
  | inl t ↦ ap (λ n. get_or (first ∷ order) n d) (place_here first number order t.0) ∙ sym t.1
  | inr t ↦ ap (λ n. get_or (first ∷ order) n d) (place_there first number order t.0) ∙ number_there order number d (in_rest first number order i t.1)
]

pub item_in : (order : List ℕ) (place d : ℕ) → place < length order → In (get_or order place d) order
item_in [] place d l = absurd (omega arith)
item_in (first ∷ order) zero d l = inl refl
item_in (first ∷ order) (suc place) d l = inr (item_in order place d (omega arith))

-- the place of the number at a place is that place
pub place_there_again : (order : List ℕ) (place d : ℕ) → IsDistinct order → place < length order → place_of order (get_or order place d) ≡ place
place_there_again [] place d once l = absurd (omega arith)
place_there_again (first ∷ order) zero d once l = elim (eqb_tells first first) [
  | inl t ↦ place_here first first order t.0
  | inr t ↦ absurd (t.1 refl)
]
place_there_again (first ∷ order) (suc place) d once l =
    let number = get_or order place d in
    let there : In number order = item_in order place d (omega arith) in
    elim (eqb_tells number first) [
      | inl t ↦ absurd (once.0 (subst (λ (z : ℕ). In z order) t.1 there))
      | inr t ↦ place_there first number order t.0 ∙ ap suc (place_there_again order place d once.1 (omega arith))
    ]

-- the list without a number
abbrev pub without : ℕ → List ℕ → List ℕ
without n order = filter (λ k. not (k == n)) order

pub from_without : (n k : ℕ) (order : List ℕ) → In k (without n order) → In k order × (k ≢ n)
from_without n k order i =
    let from = filter-from (λ k. not (k == n)) k order i in
    (from.0, elim (eqb_tells k n) [ inl t ↦ let no : not (k == n) ≡ false = ap not t.0 in cc | inr t ↦ t.1 ])

pub kept_first : (n first : ℕ) (order : List ℕ) → (first == n) ≡ false → without n (first ∷ order) ≡ first ∷ without n order
kept_first n first order e = ap (λ (b : Bool). cond (not b) (first ∷ without n order) (without n order)) e

pub left_first : (n first : ℕ) (order : List ℕ) → (first == n) ≡ true → without n (first ∷ order) ≡ without n order
left_first n first order e = ap (λ (b : Bool). cond (not b) (first ∷ without n order) (without n order)) e

pub distinct_without : (n : ℕ) (order : List ℕ) → IsDistinct order → IsDistinct (without n order)
distinct_without n [] once = once
distinct_without n (first ∷ order) once = elim (eqb_tells first n) [
  | inl t ↦ subst IsDistinct (sym (left_first n first order t.0)) (distinct_without n order once.1)
  | inr t ↦ subst IsDistinct (sym (kept_first n first order t.0)) (λ i. once.0 (from_without n first order i).0, distinct_without n order once.1)
]

pub absent_same : (n : ℕ) (order : List ℕ) → (In n order → ⊥) → without n order ≡ order
absent_same n [] absent = refl
absent_same n (first ∷ order) absent = elim (eqb_tells first n) [
  | inl t ↦ absurd (absent (inl (sym t.1)))
  | inr t ↦ kept_first n first order t.0 ∙ ap (λ z. first ∷ z) (absent_same n order (λ i. absent (inr i)))
]

pub without_absent : (n : ℕ) (order : List ℕ) → (In n order → ⊥) → length (without n order) ≡ length order
without_absent n order absent = ap length (absent_same n order absent)

one_less : (n : ℕ) (order : List ℕ) → IsDistinct order → length order ≤ suc (length (without n order))
one_less n [] once = omega arith
one_less n (first ∷ order) once = elim (eqb_tells first n) [
  | inl t ↦
      let left = ap length (left_first n first order t.0) in
      let all = without_absent n order (λ i. once.0 (subst (λ (z : ℕ). In z order) (sym t.1) i)) in
      omega (arith, left, all)
  | inr t ↦ let kept = ap length (kept_first n first order t.0) in let less = one_less n order once.1 in omega (arith, kept, less)
]

-- no more than n different numbers are below n
pub distinct_fits : (n : ℕ) (order : List ℕ) → IsDistinct order → ((k : ℕ) → In k order → k < n) → length order ≤ n
distinct_fits zero [] once inside = omega arith
distinct_fits zero (first ∷ order) once inside = absurd (omega (arith, inside first (inl refl)))
distinct_fits (suc n) order once inside =
    let fits = distinct_fits n (without n order) (distinct_without n order once) (λ k i. let from = from_without n k order i in let low = inside k from.0 in omega (arith, low, from.1)) in
    omega (arith, one_less n order once, fits)

module _ (n : ℕ) (order : List ℕ) (good : IsOrder n order) where
  -- each number stands in the order
  pub all_stand : (k : ℕ) → k < n → In k order
  all_stand k l = decide (list_any (λ j. j == k) order) refl
    where
      decide : (b : Bool) → list_any (λ j. j == k) order ≡ b → In k order
      decide true e =
          let found = In-list_any (λ j. j == k) order e in
          elim (eqb_tells found.0 k) [ inl t ↦ subst (λ (z : ℕ). In z order) t.1 found.1 | inr t ↦ let no : false ≡ true = sym t.0 ∙ found.2 in cc ]
      decide false e =
          let absent : In k order → ⊥ = λ i.
          let same : (k == k) ≡ true = elim (eqb_tells k k) [ inl t ↦ t.0 | inr t ↦ absurd (t.1 refl) ] in
          let yes : false ≡ true = sym e ∙ list_any-In (λ j. j == k) k order i same in cc
          in
          let more = distinct_fits n (k ∷ order) (absent, good.once) (λ j i. elim i [ inl same ↦ subst (λ (z : ℕ). z < n) (sym same) l | inr there ↦ good.inside j there ]) in
          let whole = good.whole in
          absurd (omega (arith, more, whole))

  pub low_place : (k : ℕ) → k < n → place_of order k < n
  low_place k l = let low = place_low order k (all_stand k l) in let whole = good.whole in omega (arith, low, whole)

  -- the number at the place of a number
  pub number_back : (k d : ℕ) → k < n → get_or order (place_of order k) d ≡ k
  number_back k d l = number_there order k d (all_stand k l)

  pub low_number : (place : ℕ) → place < n → number_at order place < n
  low_number place l = let whole = good.whole in good.inside (number_at order place) (item_in order place place (omega (arith, l, whole)))

  -- the place of the number at a place
  pub place_back : (place d : ℕ) → place < n → place_of order (get_or order place d) ≡ place
  place_back place d l = let whole = good.whole in place_there_again order place d good.once (omega (arith, l, whole))
