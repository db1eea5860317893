-- Prefixes, fractions and exponents of numbers: the longest of each, or there is none.
use Rattle.std.proofs.Common.{◌≡◌, ℕ, ◌+◌, ◌<◌, ◌≤◌, ◌⊎◌, inl, inr, List, [], ◌∷◌, length, arith, refl}
use Rattle.std.specs.Prelude.{slice_index}
use Rattle.std.proofs.lemmas.Bool.{cases_lt, cases_eq}
use Rattle.fzn_token.specs.Bytes.{is_digit_in, IsWholeRun}
use Rattle.fzn_token.specs.Numbers.{IsDigits, IsPrefixed, IsFraction, IsExponent, IsExponentSign, IsTail, exponent}
use Rattle.fzn_token.proofs.FloatTails.{digits_at_most, fraction_digits, exponent_start, sign_same, sign_none, exponent_found, exponent_missing, exponent_goes_on, tail_alone, tail_short, tail_long}
use Rattle.fzn_token.proofs.NumberForms.{prefix_is}
use Rattle.law_inputs.proofs.Searches.{whole_run}

-- a `0` and the letter with digits behind them, all of them, or no such digits
abbrev pub PrefixOrNot : ℕ → ℕ → List ℕ → ℕ → Type 0
PrefixOrNot letter base text i =
    ((k j : ℕ) → IsPrefixed (48 ∷ letter ∷ []) base text i k j → ⊥)
    ⊎ ((j : ℕ) × IsPrefixed (48 ∷ letter ∷ []) base text i (i + 2) j × IsWholeRun (is_digit_in base) text (i + 2) j)

pub prefix_or_not : (letter base : ℕ) (text : List ℕ) (i : ℕ) → PrefixOrNot letter base text i
prefix_or_not letter base text i = elim (cases_lt (i + 2) (length text)) [
  | inr over ↦ inl (λ k j p. let d = (prefix_is p).digits in let a = d.some in let b = d.run.within in omega arith)
  | inl below ↦ elim (cases_eq (slice_index text i) 48) [
    | inr no_zero ↦ inl (λ k j p. no_zero (prefix_is p).zero_here)
    | inl zero_here ↦ elim (cases_eq (slice_index text (i + 1)) letter) [
      | inr no_letter ↦ inl (λ k j p. no_letter (prefix_is p).letter_here)
      | inl letter_here ↦
          let r = whole_run (is_digit_in base) text (i + 2) (omega arith) in
          elim (cases_lt (i + 2) r.0) [
            | inr none ↦ inl (λ k j p. let d = (prefix_is p).digits in let a = digits_at_most r.1 d in let b = d.some in omega arith)
            | inl some ↦ inr (r.0, record { front_here = (omega arith, zero_here, (omega arith, letter_here, omega arith)); digits = record { some = some; run = r.1.run } }, r.1)
          ]
    ]
  ]
]

-- a `.` with digits behind it, all of them, or no such digits
abbrev FractionOrNot : List ℕ → ℕ → Type 0
FractionOrNot text i = ((j : ℕ) → IsFraction text i j → ⊥) ⊎ ((j : ℕ) × IsFraction text i j × IsWholeRun (is_digit_in 10) text (i + 1) j)

fraction_or_not : (text : List ℕ) (i : ℕ) → FractionOrNot text i
fraction_or_not text i = elim (cases_lt (i + 1) (length text)) [
  | inr over ↦ inl (λ j f. let d = (fraction_digits f).1 in let a = d.some in let b = d.run.within in omega arith)
  | inl below ↦ elim (cases_eq (slice_index text i) 46) [
    | inr no_point ↦ inl (λ j f. no_point (fraction_digits f).0)
    | inl point ↦
        let r = whole_run (is_digit_in 10) text (i + 1) (omega arith) in
        elim (cases_lt (i + 1) r.0) [
          | inr none ↦ inl (λ j f. let d = (fraction_digits f).1 in let a = digits_at_most r.1 d in let b = d.some in omega arith)
          | inl some ↦ inr (r.0, (i + 1, (omega arith, point, refl), record { some = some; run = r.1.run }), r.1)
        ]
  ]
]

-- where the digits of an exponent begin, which has a sign or none
record SignEnd (text : List ℕ) (i : ℕ) : Type 0 where
  start : ℕ
  within : start ≤ length text
  sign : IsExponentSign text i start
  only : (l j : ℕ) → IsExponentSign text i l → IsDigits 10 text l j → l ≡ start

sign_end : (text : List ℕ) (i : ℕ) → i < length text → SignEnd text i
sign_end text i below = elim (cases_eq (slice_index text i) 43) [
  | inl plus ↦ record { start = i + 1; within = omega arith; sign = inr (inl (below, plus, refl)); only = λ l j s d. sign_same s d (inl plus) }
  | inr no_plus ↦ elim (cases_eq (slice_index text i) 45) [
    | inl minus ↦ record { start = i + 1; within = omega arith; sign = inr (inr (below, minus, refl)); only = λ l j s d. sign_same s d (inr minus) }
    | inr no_minus ↦ record { start = i; within = omega arith; sign = inl refl; only = λ l j s d. sign_none text i l s no_plus no_minus }
  ]
]

-- the longest exponent, or none
abbrev ExponentOrNot : List ℕ → ℕ → Type 0
ExponentOrNot text i = ((j : ℕ) → IsExponent text i j → ⊥) ⊎ ((j : ℕ) × IsExponent text i j × ((other : ℕ) → IsExponent text i other → other ≤ j))

-- behind its letter
after_letter : (text : List ℕ) (i : ℕ) → i + 1 < length text → (slice_index text i ≡ 101) ⊎ (slice_index text i ≡ 69) → ExponentOrNot text i
after_letter text i below letter =
    let s = sign_end text (i + 1) below in
    let r = whole_run (is_digit_in 10) text s.start s.within in
    elim (cases_lt s.start r.0) [
      | inr none ↦ inl (exponent_missing s.only r.1 none)
      | inl some ↦ let e = exponent_found (omega arith) letter s.sign s.only r.1 some in inr (r.0, e.0, e.1)
    ]

no_letter : (text : List ℕ) (i : ℕ) → (slice_index text i ≡ 101 → ⊥) → (slice_index text i ≡ 69 → ⊥) → (j : ℕ) → IsExponent text i j → ⊥
no_letter text i small large j e = elim (exponent_start e).letter [ inl s ↦ small s | inr l ↦ large l ]

exponent_or_not : (text : List ℕ) (i : ℕ) → ExponentOrNot text i
exponent_or_not text i = elim (cases_lt (i + 1) (length text)) [
  | inr over ↦ inl (λ j e. let s = exponent_start e in let a = s.digits.some in let b = s.digits.run.within in let c = sign_on text (i + 1) s.start s.sign in omega arith)
  | inl below ↦ elim (cases_eq (slice_index text i) 101) [
    | inl small ↦ after_letter text i below (inl small)
    | inr no_small ↦ elim (cases_eq (slice_index text i) 69) [
      | inl large ↦ after_letter text i below (inr large)
      | inr no_large ↦ inl (no_letter text i no_small no_large)
    ]
  ]
] where
  sign_on : (text : List ℕ) (i l : ℕ) → IsExponentSign text i l → i ≤ l
  sign_on text i l s = elim s [ inl none ↦ omega arith | inr some ↦ elim some [ inl plus ↦ (let a = plus.2 in omega arith) | inr minus ↦ (let a = minus.2 in omega arith) ] ]

-- the longest fraction, exponent or both, or none
abbrev pub TailOrNot : List ℕ → ℕ → Type 0
TailOrNot text i = ((j : ℕ) → IsTail text i j → ⊥) ⊎ ((j : ℕ) × IsTail text i j × ((other : ℕ) → IsTail text i other → other ≤ j))

-- behind a fraction
after_fraction : (text : List ℕ) (i middle : ℕ) → IsFraction text i middle × IsWholeRun (is_digit_in 10) text (i + 1) middle → ExponentOrNot text middle → TailOrNot text i
after_fraction text i middle f e = elim e [
  | inl none ↦ let t = tail_short f none in inr (middle, t.0, t.1)
  | inr some ↦ let t = tail_long f (some.1, some.2) (exponent_goes_on some.1) in inr (some.0, t.0, t.1)
]

-- where no fraction stands
without_fraction : (text : List ℕ) (i : ℕ) → ((j : ℕ) → IsFraction text i j → ⊥) → ExponentOrNot text i → TailOrNot text i
without_fraction text i no_fraction e = elim e [
  | inl none ↦ inl (λ j t. none j (tail_alone no_fraction t))
  | inr some ↦ inr (some.0, exponent some.1, λ other t. some.2 other (tail_alone no_fraction t))
]

pub tail_or_not : (text : List ℕ) (i : ℕ) → TailOrNot text i
tail_or_not text i = elim (fraction_or_not text i) [
  | inl none ↦ without_fraction text i none (exponent_or_not text i)
  | inr some ↦ after_fraction text i some.0 (some.1, some.2) (exponent_or_not text some.0)
]
