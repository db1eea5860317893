-- Whether a nogood gives a variable another value, by a look-up.
use Rattle.std.proofs.Common.{◌≡◌, ℕ, ◌+◌, ◌<◌, ◌≤◌, arith, length, get_or, Bool, true, false, not, ◌&&◌, ◌||◌, ◌==◌, List, [], ◌∷◌, filter, Some, None, ℤ, refl, sym, ap, ◌∙◌, cond, inl, inr}
use Rattle.std.specs.List.{list_all}
use Rattle.std.specs.Ordering.{int_eq}
use Rattle.std.proofs.lemmas.Bool.{cases_eq, cases_lt, ne_eqb, eq-eqb}
use Rattle.dcsp_defs.specs.declared.nogood.Pair.{Pair}
use Rattle.dcsp_defs.specs.Pairs.{no_pair, var_at, IsRising, value_at}
use Rattle.dcsp_defs.proofs.Determined.{IsRising-tail, value_at-rest, value_at-same, value_at-other}
use Rattle.dcsp_defs.proofs.Searched.{rises_between, value_at-absent, value_at-place}
use Rattle.abt_defs.specs.Steps.{forget, is_named}
use Rattle.abt_parts.specs.declared.recorded.Recorded.{Recorded}
use Rattle.abt_parts.specs.Stores.{records_of, record_of, fits}

-- whether no pair gives the variable another value
abbrev pub all_fit : ℕ → ℤ → List Pair → Bool
all_fit var value pairs = list_all (λ (pair : Pair). not (var == pair.var) || int_eq pair.value value) pairs

and_true : (b : Bool) → (b && true) ≡ b
and_true true = refl
and_true false = refl

other_first : (p : Pair) (ps : List Pair) (var : ℕ) (value : ℤ) → (var == p.var) ≡ false → all_fit var value (p ∷ ps) ≡ all_fit var value ps
other_first p ps var value e = ap (λ t. (not t || int_eq p.value value) && all_fit var value ps) e

same_first : (p : Pair) (ps : List Pair) (var : ℕ) (value : ℤ) → (var == p.var) ≡ true → all_fit var value ps ≡ true → all_fit var value (p ∷ ps) ≡ int_eq p.value value
same_first p ps var value e rest =
    ap (λ t. (not t || int_eq p.value value) && all_fit var value ps) e ∙ ap (λ t. int_eq p.value value && t) rest ∙ and_true (int_eq p.value value)

-- a variable that no pair names
pub fits_none : (ps : List Pair) (var : ℕ) (value : ℤ) → value_at ps var ≡ None → all_fit var value ps ≡ true
fits_none [] var value none = refl
fits_none (p ∷ ps) var value none = elim (cases_eq var p.var) [
  | inl e ↦ absurd (let some = sym (value_at-same p ps var e) ∙ none in cc)
  | inr ne ↦ other_first p ps var value (ne_eqb var p.var ne) ∙ fits_none ps var value (sym (value_at-other p ps var ne) ∙ none)
]

-- a variable that a pair names
pub fits_some : (ps : List Pair) (var : ℕ) (value kept : ℤ) → IsRising ps → value_at ps var ≡ Some kept → all_fit var value ps ≡ int_eq kept value
fits_some [] var value kept up some = absurd (let clash : None ≡ Some kept = some in cc)
fits_some (p ∷ ps) var value kept up some = elim (cases_eq var p.var) [
  | inl e ↦
      let none = ap (value_at ps) e ∙ value_at-rest p ps up in
      let both : Some p.value ≡ Some kept = sym (value_at-same p ps var e) ∙ some in
      let same : p.value ≡ kept = cc in
      same_first p ps var value (eq-eqb var p.var e) (fits_none ps var value none) ∙ ap (λ z. int_eq z value) same
  | inr ne ↦ other_first p ps var value (ne_eqb var p.var ne) ∙ fits_some ps var value kept (IsRising-tail p ps up) (sym (value_at-other p ps var ne) ∙ some)
]

-- what is forgotten is what the definitions forget
pub records-filter : (var : ℕ) (value : ℤ) (items : List Recorded) → records_of (filter (fits var value) items) ≡ forget var value (records_of items)
records-filter var value [] = refl
records-filter var value (x ∷ xs) = by_test (fits var value x) (records-filter var value xs) where
  by_test : (b : Bool) → records_of (filter (fits var value) xs) ≡ forget var value (records_of xs)
      → records_of (cond b (x ∷ filter (fits var value) xs) (filter (fits var value) xs)) ≡ cond b (record_of x ∷ forget var value (records_of xs)) (forget var value (records_of xs))
  by_test true later = ap (λ z. record_of x ∷ z) later
  by_test false later = later

-- a nogood that does not name the variable gives it no value
pub fits_unnamed : (ps : List Pair) (var : ℕ) (value : ℤ) → is_named var ps ≡ false → all_fit var value ps ≡ true
fits_unnamed [] var value none = refl
fits_unnamed (p ∷ ps) var value none = by_test (var == p.var) (is_named var ps) refl refl none (fits_unnamed ps var value) where
  by_test : (a b : Bool) → (var == p.var) ≡ a → is_named var ps ≡ b → (a || b) ≡ false → (is_named var ps ≡ false → all_fit var value ps ≡ true) → all_fit var value (p ∷ ps) ≡ true
  by_test true b e f clash later = absurd cc
  by_test false true e f clash later = absurd cc
  by_test false false e f clash later = other_first p ps var value e ∙ later f

-- where a pair names no greater variable than this one, and those behind it do, it alone can give it another value
pub fits_here : (ps : List Pair) (var : ℕ) (value : ℤ) (at : ℕ) → IsRising ps → at < length ps → var_at ps at ≤ var → ((k : ℕ) → at + 1 ≤ k → k < length ps → var < var_at ps k)
    → (not (var == var_at ps at) || int_eq (get_or ps at no_pair).value value) ≡ all_fit var value ps
fits_here ps var value at up within below above = elim (cases_eq var (var_at ps at)) [
  | inl e ↦
      let found = value_at-place ps var at up (record { within = within; names = sym e }) in
      ap (λ b. not b || int_eq (get_or ps at no_pair).value value) (eq-eqb var (var_at ps at) e) ∙ sym (fits_some ps var value (get_or ps at no_pair).value up found)
  | inr ne ↦
      ap (λ b. not b || int_eq (get_or ps at no_pair).value value) (ne_eqb var (var_at ps at) ne)
      ∙ sym (fits_none ps var value (value_at-absent ps var (λ k inside same. elim (cases_lt k at) [
        | inl before ↦ let rise = rises_between ps up k at before within in omega (arith, rise, below, same)
        | inr after ↦ elim (cases_eq k at) [
          | inl here ↦ ne (sym same ∙ ap (var_at ps) here)
          | inr past ↦ let more = above k (omega (arith, after, past)) inside in omega (arith, more, same)
        ]
      ])))
]

-- where all pairs name greater variables, none gives it another value
pub fits_above : (ps : List Pair) (var : ℕ) (value : ℤ) → ((k : ℕ) → k < length ps → var < var_at ps k) → all_fit var value ps ≡ true
fits_above ps var value above = fits_none ps var value (value_at-absent ps var (λ k inside same. let more = above k inside in omega (arith, more, same)))
