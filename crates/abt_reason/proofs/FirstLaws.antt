-- The first place at which a test passes, after the test has changed.
use Rattle.std.proofs.Common.{◌≡◌, ◌≢◌, ℕ, ◌<◌, ◌≤◌, Bool, false, Option, Some, None, sym, ap, ◌∙◌, arith, inl, inr}
use Rattle.std.proofs.lemmas.Bool.{cases_eq}
use Rattle.abt_reason.specs.Firsts.{IsFirst, IsFirstBetween}

-- two tests that agree have one first place
pub first_alike : (p q : ℕ → Bool) (count : ℕ) (first : Option ℕ) → ((j : ℕ) → j < count → p j ≡ q j) → IsFirst p count first → IsFirst q count first
first_alike p q count None same f = λ j l. sym (same j l) ∙ f j l
first_alike p q count (Some i) same f =
    let within = f.0 in
    (within, sym (same i within) ∙ f.1, λ j l. sym (same j (omega arith)) ∙ f.2 j l)

-- two tests that agree between two places have one first place there
pub between_alike : (p q : ℕ → Bool) (from end : ℕ) (first : Option ℕ) → ((j : ℕ) → from ≤ j → j < end → p j ≡ q j) → IsFirstBetween p from end first → IsFirstBetween q from end first
between_alike p q from end None same f = λ j l m. sym (same j l m) ∙ f j l m
between_alike p q from end (Some i) same f =
    let within = f.1 in
    (f.0, within, sym (same i f.0 within) ∙ f.2, λ j l m. let below : j < end = omega (arith, m, within) in sym (same j l below) ∙ f.3 j l m)

-- the first place is another than the one that no longer passes
pub first_stays : (p q : ℕ → Bool) (count place : ℕ) (o : Option ℕ) → IsFirst p count o → q place ≡ false → ((j : ℕ) → j ≢ place → p j ≡ q j) → o ≢ Some place → IsFirst q count o
first_stays p q count place None f off same ne = λ j l. elim (cases_eq j place) [ inl e ↦ ap q e ∙ off | inr apart ↦ sym (same j apart) ∙ f j l ]
first_stays p q count place (Some i) f off same ne =
    let apart : i ≢ place = λ e. ne (ap (λ n. Some n) e) in (
      f.0,
      sym (same i apart) ∙ f.1,
      λ j l. elim (cases_eq j place) [ inl e ↦ ap q e ∙ off | inr other ↦ sym (same j other) ∙ f.2 j l ],
    )

-- it was that one: none before it passes, and it does not
pub none_until : (p q : ℕ → Bool) (count place : ℕ) → IsFirst p count (Some place) → q place ≡ false → ((j : ℕ) → j ≢ place → p j ≡ q j) → (j : ℕ) → j ≤ place → q j ≡ false
none_until p q count place f off same j l = elim (cases_eq j place) [
  | inl e ↦ ap q e ∙ off
  | inr apart ↦ let below : j < place = omega arith in sym (same j apart) ∙ f.2 j below
]
