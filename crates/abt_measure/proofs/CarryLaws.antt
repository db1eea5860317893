-- What is added to the messages in transit to one agent, and what is taken.
use Rattle.std.proofs.Common.{◌≡◌, ℕ, zero, suc, ◌<◌, ◌==◌, cond, inl, inr, List, [], ◌∷◌, ◌++◌, length, remove, refl, sym, ap, ◌∙◌, arith}
use Rattle.std.proofs.lemmas.Bool.Decides.{eqb_tells}
use Rattle.abt_defs.specs.Clocks.{first_of, rest_of}
use Rattle.abt_measure.specs.declared.carried.Carried.{Carried}
use Rattle.abt_measure.specs.Carrying.{clocks_from, carried_at, NoneBefore}

pub clocks_added : (a from clock : ℕ) (xs : List Carried) → clocks_from a (xs ++ record { from = from; clock = clock } ∷ []) ≡ cond (a == from) (clocks_from a xs ++ clock ∷ []) (clocks_from a xs)
clocks_added a from clock [] = refl
clocks_added a from clock (x ∷ xs) =
    let h = clocks_added a from clock xs in
    elim (eqb_tells a x.from) [
      | inl t ↦ rw (t.0, h) (elim (eqb_tells a from) [ inl u ↦ rw u.0 refl | inr u ↦ rw u.0 refl ])
      | inr t ↦ rw (t.0, h) refl
    ]

tail_none : (from : ℕ) (x : Carried) (xs : List Carried) (i : ℕ) → NoneBefore from (x ∷ xs) (suc i) → NoneBefore from xs i
tail_none from x xs i h k l = h (suc k) (omega arith)

pub taken_first : (from : ℕ) (xs : List Carried) (i : ℕ) → i < length xs → NoneBefore from xs i → (carried_at xs i).from ≡ from → (carried_at xs i).clock ≡ first_of (clocks_from from xs)
taken_first from [] i l h e = absurd (omega arith)
taken_first from (x ∷ xs) zero l h e = elim (eqb_tells from x.from) [ inl t ↦ rw t.0 refl | inr t ↦ absurd (t.1 (sym e)) ]
taken_first from (x ∷ xs) (suc i) l h e = elim (eqb_tells from x.from) [
  | inl t ↦ absurd (h 0 (omega arith) (sym t.1))
  | inr t ↦ rw t.0 (taken_first from xs i (omega arith) (tail_none from x xs i h) e)
]

pub taken_rest : (a from : ℕ) (xs : List Carried) (i : ℕ) → i < length xs → NoneBefore from xs i → (carried_at xs i).from ≡ from
    → clocks_from a (remove xs i) ≡ cond (a == from) (rest_of (clocks_from a xs)) (clocks_from a xs)
taken_rest a from [] i l h e = absurd (omega arith)
taken_rest a from (x ∷ xs) zero l h e = elim (eqb_tells a from) [
  | inl t ↦ elim (eqb_tells a x.from) [ inl v ↦ rw (t.0, v.0) refl | inr v ↦ absurd (v.1 (t.1 ∙ sym e)) ]
  | inr t ↦ elim (eqb_tells a x.from) [ inl v ↦ absurd (t.1 (v.1 ∙ e)) | inr v ↦ rw (t.0, v.0) refl ]
]
taken_rest a from (x ∷ xs) (suc i) l h e =
    let r = taken_rest a from xs i (omega arith) (tail_none from x xs i h) e in
    elim (eqb_tells a from) [
      | inl t ↦ elim (eqb_tells a x.from) [
        | inl v ↦ absurd (h 0 (omega arith) (sym v.1 ∙ t.1))
        | inr v ↦ rw (v.0, t.0) (r ∙ rw t.0 refl)
      ]
      | inr t ↦ elim (eqb_tells a x.from) [
        | inl v ↦ rw (v.0, t.0) (ap (λ z. x.clock ∷ z) (r ∙ rw t.0 refl))
        | inr v ↦ rw (v.0, t.0) (r ∙ rw t.0 refl)
      ]
    ]

pub none_at_all : (from : ℕ) (xs : List Carried) → NoneBefore from xs (length xs) → clocks_from from xs ≡ []
none_at_all from [] h = refl
none_at_all from (x ∷ xs) h = elim (eqb_tells from x.from) [
  | inl t ↦ absurd (h 0 (omega arith) (sym t.1))
  | inr t ↦ rw t.0 (none_at_all from xs (λ k l. h (suc k) (omega arith)))
]

pub none_first : (from : ℕ) (xs : List Carried) → NoneBefore from xs (length xs) → 0 ≡ first_of (clocks_from from xs)
none_first from xs h = rw (none_at_all from xs h) refl

pub none_rest : (a from : ℕ) (xs : List Carried) → NoneBefore from xs (length xs) → clocks_from a xs ≡ cond (a == from) (rest_of (clocks_from a xs)) (clocks_from a xs)
none_rest a from xs h = elim (eqb_tells a from) [
  | inl t ↦ let e : clocks_from a xs ≡ [] = ap (λ z. clocks_from z xs) t.1 ∙ none_at_all from xs h in rw (t.0, e) refl
  | inr t ↦ rw t.0 refl
]
