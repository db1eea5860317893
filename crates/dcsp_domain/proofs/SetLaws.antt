-- The set of some values, and that nothing else is one.
use Rattle.std.proofs.Common.{◌≡◌, Bool, true, false, List, [], ◌∷◌, refl, sym, ap, ◌∙◌, arith, inl, inr, subst}
use Rattle.std.specs.Prelude.{ℤ, ◌<ℤ◌, ◌||◌, if◌then◌else◌}
use Rattle.std.specs.Ordering.{int_eq, int_cmp, is_lt}
use Rattle.std.proofs.lemmas.Bool.Decides.{Decides-int_eq}
use Rattle.std.proofs.lemmas.Int.{ints}
use Rattle.dcsp_domain.specs.Sets.{IsSetOf, has, put, set_of}
use Rattle.dcsp_domain.proofs.Rising.{IsBelow, Rises, rises_from_rising, rising_from_rises, has_first, has_cases}

or_swap : (a b c : Bool) → (a || (b || c)) ≡ (b || (a || c))
or_swap true true c = refl
or_swap true false c = refl
or_swap false true c = refl
or_swap false false c = refl

or_twice : (a b : Bool) → (a || b) ≡ (a || (a || b))
or_twice true b = refl
or_twice false b = refl

-- what a list has once a value is put into it
pub has-put : (v x : ℤ) (ys : List ℤ) → has (put x ys) v ≡ (int_eq v x || has ys v)
has-put v x [] = refl
has-put v x (y ∷ ys) = by_order (is_lt (int_cmp x y)) (has-put v x ys) where
  by_equality : (b : Bool) → int_eq x y ≡ b → has (put x ys) v ≡ (int_eq v x || has ys v) → has (if b then y ∷ ys else y ∷ put x ys) v ≡ (int_eq v x || (int_eq v y || has ys v))
  by_equality true e later =
      let same : x ≡ y = (Decides-int_eq x y).0 e in
      or_twice (int_eq v y) (has ys v) ∙ ap (λ z. int_eq v z || (int_eq v y || has ys v)) (sym same)
  by_equality false e later = ap (λ z. int_eq v y || z) later ∙ or_swap (int_eq v y) (int_eq v x) (has ys v)

  by_order : (b : Bool) → has (put x ys) v ≡ (int_eq v x || has ys v) → has (if b then x ∷ y ∷ ys else (if int_eq x y then y ∷ ys else y ∷ put x ys)) v ≡ (int_eq v x || (int_eq v y || has ys v))
  by_order true later = refl
  by_order false later = by_equality (int_eq x y) refl later

is_less : (x y : ℤ) → is_lt (int_cmp x y) ≡ true → x <ℤ y
is_less x y h = grind (arith, ints)

is_more : (x y : ℤ) → is_lt (int_cmp x y) ≡ false → (x ≡ y → ⊥) → y <ℤ x
is_more x y h ne = grind (arith, ints)

below_more : (x y : ℤ) (ys : List ℤ) → x <ℤ y → IsBelow y ys → IsBelow x (y ∷ ys)
below_more x y ys less below = record {
  each = λ v h. elim (has_cases v y ys h) [
    | inl e ↦ subst (λ (w : ℤ). x <ℤ w) (sym e) less
    | inr later ↦ let up = below.each v later in omega (arith, ints)
  ];
}

below_put : (x y : ℤ) (ys : List ℤ) → y <ℤ x → IsBelow y ys → IsBelow y (put x ys)
below_put x y ys less below = record {
  each = λ v h. elim (has_cases v x ys (sym (has-put v x ys) ∙ h)) [
    | inl e ↦ subst (λ (w : ℤ). y <ℤ w) (sym e) less
    | inr later ↦ below.each v later
  ];
}

-- a rising list still rises once a value is put into it
pub rises-put : (x : ℤ) (ys : List ℤ) → Rises ys → Rises (put x ys)
rises-put x [] r = (record { each = λ v h. absurd (cc) }, tt)
rises-put x (y ∷ ys) r = by_order (is_lt (int_cmp x y)) refl (rises-put x ys r.1) where
  by_equality : (b : Bool) → int_eq x y ≡ b → is_lt (int_cmp x y) ≡ false → Rises (put x ys) → Rises (if b then y ∷ ys else y ∷ put x ys)
  by_equality true e h later = r
  by_equality false e h later =
      let differ : x ≡ y → ⊥ = λ same. let yes = (Decides-int_eq x y).1 same in cc in
      (below_put x y ys (is_more x y h differ) r.0, later)

  by_order : (b : Bool) → is_lt (int_cmp x y) ≡ b → Rises (put x ys) → Rises (if b then x ∷ y ∷ ys else (if int_eq x y then y ∷ ys else y ∷ put x ys))
  by_order true h later = (below_more x y ys (is_less x y h) r.0, r)
  by_order false h later = by_equality (int_eq x y) refl h later

rises-set_of : (xs : List ℤ) → Rises (set_of xs)
rises-set_of [] = tt
rises-set_of (x ∷ xs) = rises-put x (set_of xs) (rises-set_of xs)

has-set_of : (xs : List ℤ) (v : ℤ) → has (set_of xs) v ≡ has xs v
has-set_of [] v = refl
has-set_of (x ∷ xs) v = has-put v x (set_of xs) ∙ ap (λ z. int_eq v x || z) (has-set_of xs v)

-- the set of some values is what its name says
pub set_of_is_set : (values : List ℤ) → IsSetOf values (set_of values)
set_of_is_set values = record { rising = rising_from_rises (set_of values) (rises-set_of values); members = has-set_of values }

-- the first items of rising lists with the same members are the same
same_first : (x y : ℤ) (xs ys : List ℤ) → Rises (x ∷ xs) → Rises (y ∷ ys) → ((v : ℤ) → has (x ∷ xs) v ≡ has (y ∷ ys) v) → x ≡ y
same_first x y xs ys r s same =
    elim (has_cases x y ys (sym (same x) ∙ has_first x xs)) [
      | inl e ↦ e
      | inr up ↦ elim (has_cases y x xs (same y ∙ has_first y ys)) [
        | inl e ↦ sym e
        | inr down ↦ let a = s.0.each x up in let b = r.0.each y down in absurd (omega (arith, ints))
      ]
    ]

-- and so are their later items' members
same_rest : (x : ℤ) (xs ys : List ℤ) → IsBelow x xs → IsBelow x ys → ((v : ℤ) → has (x ∷ xs) v ≡ has (x ∷ ys) v) → (v : ℤ) → has xs v ≡ has ys v
same_rest x xs ys a b same v = cases (int_eq v x) refl (same v) where
  nowhere : (zs : List ℤ) → IsBelow x zs → v ≡ x → (t : Bool) → has zs v ≡ t → t ≡ false
  nowhere zs below e true h = let up = below.each v h in absurd (omega (arith, ints))
  nowhere zs below e false h = refl

  cases : (t : Bool) → int_eq v x ≡ t → (t || has xs v) ≡ (t || has ys v) → has xs v ≡ has ys v
  cases true e h =
      let same_value : v ≡ x = (Decides-int_eq v x).0 e in
      nowhere xs a same_value (has xs v) refl ∙ sym (nowhere ys b same_value (has ys v) refl)
  cases false e h = h

-- rising lists with the same members are one list
pub same_members : (xs ys : List ℤ) → Rises xs → Rises ys → ((v : ℤ) → has xs v ≡ has ys v) → xs ≡ ys
same_members [] [] r s same = refl
same_members [] (y ∷ ys) r s same = let no = same y ∙ has_first y ys in cc
same_members (x ∷ xs) [] r s same = let no = sym (same x) ∙ has_first x xs in cc
same_members (x ∷ xs) (y ∷ ys) r s same =
    let e : x ≡ y = same_first x y xs ys r s same in
    let moved : (v : ℤ) → has (x ∷ xs) v ≡ has (x ∷ ys) v = λ v. same v ∙ ap (λ z. int_eq v z || has ys v) (sym e) in
    let below : IsBelow x ys = subst (λ z. IsBelow z ys) (sym e) s.0 in
    let rest : xs ≡ ys = same_members xs ys r.1 s.1 (same_rest x xs ys r.0 below moved) in
    ap (λ z. x ∷ z) rest ∙ ap (λ z. z ∷ ys) e

-- there is one set of some values
pub one_set : (values xs ys : List ℤ) → IsSetOf values xs → IsSetOf values ys → xs ≡ ys
one_set values xs ys a b =
    same_members xs ys (rises_from_rising xs a.rising) (rises_from_rising ys b.rising) (λ v. a.members v ∙ sym (b.members v))
