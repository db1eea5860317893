-- A rising list of pairs is determined by the values that it gives.
use Rattle.std.proofs.Common.{◌≡◌, ◌≢◌, ℕ, suc, ◌+◌, ◌<◌, List, [], ◌∷◌, length, Some, None, refl, sym, ap, ◌∙◌, arith, inl, inr}
use Rattle.std.proofs.lemmas.Bool.{cases_eq, cases_lt, ne_eqb, eq-eqb}
use Rattle.dcsp_defs.specs.declared.nogood.Pair.{Pair}
use Rattle.dcsp_defs.specs.Pairs.{var_at, IsRising, value_at, ValuesDetermine}
use Rattle.dcsp_defs.proofs.PairsLemmas.{value_at-above}

pub IsRising-tail : (p : Pair) (ps : List Pair) → IsRising (p ∷ ps) → IsRising ps
IsRising-tail p ps up k h = let e : suc k + 1 ≡ suc (k + 1) = omega arith in rw e at (up (suc k) (omega arith))

-- a rising list has no value for a variable below its first
pub value_at-below : (ps : List Pair) (v : ℕ) → IsRising ps → (0 < length ps → v < var_at ps 0) → value_at ps v ≡ None
value_at-below ps v up below = value_at-above (length ps) ps 0 v (omega arith) up below

pub value_at-same : (p : Pair) (ps : List Pair) (v : ℕ) → v ≡ p.var → value_at (p ∷ ps) v ≡ Some p.value
value_at-same p ps v e = rw (eq-eqb v p.var e) refl

pub value_at-other : (p : Pair) (ps : List Pair) (v : ℕ) → v ≢ p.var → value_at (p ∷ ps) v ≡ value_at ps v
value_at-other p ps v ne = rw (ne_eqb v p.var ne) refl

-- the rest has no value for the first variable
pub value_at-rest : (p : Pair) (ps : List Pair) → IsRising (p ∷ ps) → value_at ps p.var ≡ None
value_at-rest p ps up = value_at-below ps p.var (IsRising-tail p ps up) (λ h. up 0 (omega arith))

same_pair : (p q : Pair) → p.var ≡ q.var → p.value ≡ q.value → p ≡ q
same_pair p q e f = ap (λ (n : ℕ). let r : Pair = record { var = n; value = p.value } in r) e ∙ ap (λ v. let r : Pair = record { var = q.var; value = v } in r) f

same_first : (p q : Pair) (ps qs : List Pair) → IsRising (p ∷ ps) → IsRising (q ∷ qs) → ((v : ℕ) → value_at (p ∷ ps) v ≡ value_at (q ∷ qs) v) → p ≡ q
same_first p q ps qs up uq same = elim (cases_eq p.var q.var) [
  | inl e ↦
      let both : Some p.value ≡ Some q.value = sym (value_at-same p ps p.var refl) ∙ same p.var ∙ value_at-same q qs p.var e in
      same_pair p q e cc
  | inr ne ↦ elim (cases_lt p.var q.var) [
    | inl lt ↦ let none : Some p.value ≡ None = sym (value_at-same p ps p.var refl) ∙ same p.var ∙ value_at-below (q ∷ qs) p.var uq (λ h. lt) in cc
    | inr ge ↦ let none : Some q.value ≡ None = sym (value_at-same q qs q.var refl) ∙ sym (same q.var) ∙ value_at-below (p ∷ ps) q.var up (λ h. omega (arith, ge, ne)) in cc
  ]
]

same_rest : (p : Pair) (ps qs : List Pair) → IsRising (p ∷ ps) → IsRising (p ∷ qs) → ((v : ℕ) → value_at (p ∷ ps) v ≡ value_at (p ∷ qs) v) → (v : ℕ) → value_at ps v ≡ value_at qs v
same_rest p ps qs up uq same v = elim (cases_eq v p.var) [
  | inl e ↦ rw e (value_at-rest p ps up ∙ sym (value_at-rest p qs uq))
  | inr ne ↦ sym (value_at-other p ps v ne) ∙ same v ∙ value_at-other p qs v ne
]

pub values_determine : ValuesDetermine
values_determine [] [] up uq same = refl
values_determine [] (q ∷ qs) up uq same = let none : None ≡ Some q.value = same q.var ∙ value_at-same q qs q.var refl in cc
values_determine (p ∷ ps) [] up uq same = let none : Some p.value ≡ None = sym (value_at-same p ps p.var refl) ∙ same p.var in cc
values_determine (p ∷ ps) (q ∷ qs) up uq same =
    let first : p ≡ q = same_first p q ps qs up uq same in
    let uq2 : IsRising (p ∷ qs) = rw first uq in
    ap (λ r. r ∷ ps) first ∙ ap (λ rest. q ∷ rest) (values_determine ps qs (IsRising-tail p ps up) (IsRising-tail q qs uq) (same_rest p ps qs up uq2 (λ v. same v ∙ sym (ap (λ r. value_at (r ∷ qs) v) first))))
