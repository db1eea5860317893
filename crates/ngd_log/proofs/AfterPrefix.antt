-- What stands after a text.
use Rattle.std.proofs.Common.{◌≡◌, ℕ, ◌+◌, true, false, cond, ◌&&◌, eqb, List, [], ◌∷◌, ◌++◌, length, take, drop, Option, Some, None, inl, inr, refl, sym, ap, ◌∙◌}
use Rattle.std.specs.Prelude.{MatchOption}
use Rattle.std.specs.Char.{is_ascii_digit}
use Rattle.std.specs.Cmp.Lexicographic.{pointwise}
use Rattle.std.proofs.lemmas.Bool.{false≢true, eqb-true, eq-eqb, ne_eqb}
use denote.Ref.{Bor}
use Rattle.dcsp_common.proofs.Chosen.{chosen, some_is}
use Rattle.dcsp_common.proofs.Decimals.{BeginsWithDigit}
use Rattle.dcsp_common.specs.Reading.{Reads}
use Rattle.ngd_log.specs.Reading.{after}

-- as a test of the front
after_is : (text bytes : List ℕ) → after text bytes ≡ cond (pointwise eqb (take (length text) bytes) text) (Some (drop (length text) bytes)) None
unfolding after
after_is [] bytes = refl
after_is (c ∷ text) [] = refl
after_is (c ∷ text) (b ∷ bytes) =
    elim (eqb b c) as (λ t. cond t (after text bytes) None ≡ cond (t && pointwise eqb (take (length text) bytes) text) (Some (drop (length text) bytes)) None) [
      | true ↦ after_is text bytes
      | false ↦ refl
    ]

-- what `strip_prefix` gives
pub after-strip_prefix : (text bytes : List ℕ) (r : Option (Bor (List ℕ)))
    → MatchOption r (pointwise eqb (take (length text) bytes) text ≡ false) (λ x. (pointwise eqb (take (length text) bytes) text ≡ true) × (x.now ≡ drop (length text) bytes) × (length x.now + length text ≡ length bytes))
    → Reads (λ x. x.now) r (after text bytes)
after-strip_prefix text bytes None h = rw (after_is text bytes, h) refl
after-strip_prefix text bytes (Some x) h = rw (after_is text bytes, h.0, h.1) refl

-- what was taken is the text
pub after_takes : (text bytes rest : List ℕ) → after text bytes ≡ Some rest → bytes ≡ text ++ rest
unfolding after
after_takes [] bytes rest h = some_is bytes rest h
after_takes (c ∷ text) [] rest h = absurd cc
after_takes (c ∷ text) (b ∷ bytes) rest h =
    elim (chosen (eqb b c) (after text bytes) None (Some rest) h) [
      | inl e ↦ let i = after_takes text bytes rest e.1 in let k : b ≡ c = eqb-true _ _ e.0 in rw k (ap (λ (x : List ℕ). c ∷ x) i)
      | inr e ↦ absurd (let g = e.1 in cc)
    ]

-- a text that is there is taken
pub after_again : (text rest : List ℕ) → after text (text ++ rest) ≡ Some rest
unfolding after
after_again [] rest = refl
after_again (c ∷ text) rest = let e : eqb c c ≡ true = eq-eqb c c refl in rw e (after_again text rest)

-- another first byte is not taken
pub after_other : (c b : ℕ) (text bytes : List ℕ) → (b ≡ c → ⊥) → after (c ∷ text) (b ∷ bytes) ≡ None
unfolding after
after_other c b text bytes n = rw (ne_eqb b c n) refl

-- nothing is taken from no bytes
pub after_nothing : (c : ℕ) (text : List ℕ) → after (c ∷ text) [] ≡ None
unfolding after
after_nothing c text = refl

-- another byte is not taken from digits
pub after_no_digit : (c : ℕ) (text bytes : List ℕ) → is_ascii_digit c ≡ false → BeginsWithDigit bytes → after (c ∷ text) bytes ≡ None
after_no_digit c text bytes n b = rw b.parts (after_other c b.first text b.others (λ e. absurd (false≢true (sym n ∙ ap is_ascii_digit (sym e) ∙ b.digit))))
