-- Names that differ.
use Rattle.std.proofs.Common.{◌≡◌, ℕ, ◌≤◌, Bool, true, false, cond, ◌&&◌, List, [], ◌∷◌, ◌++◌, map, length, get_or, refl, sym, ◌∙◌, ap}
use Rattle.abt_words.specs.declared.value.Value as code
use Rattle.abt_words.specs.Saying.{Value, Absent, Given, Name, Number, Signed, Word, has_name, is_new_name, differs_from, names_differ}
use Rattle.abt_words.specs.Values.{value_in}
use Rattle.abt_words.proofs.FewWords.{behind, begins, first_read}

new_more : (name : List ℕ) (xs ys : List Value) → is_new_name name (xs ++ ys) ≡ is_new_name name xs && is_new_name name ys
new_more name [] ys = refl
new_more name (x ∷ xs) ys = elim (has_name name x) as (λ b. cond b false (is_new_name name (xs ++ ys)) ≡ cond b false (is_new_name name xs) && is_new_name name ys) [ true ↦ refl | false ↦ new_more name xs ys ]

pub differs_more : (value : Value) (xs ys : List Value) → differs_from value (xs ++ ys) ≡ differs_from value xs && differs_from value ys
differs_more Absent xs ys = refl
differs_more Given xs ys = refl
differs_more (Name name) xs ys = new_more name xs ys
differs_more (Number n) xs ys = refl
differs_more (Signed z) xs ys = refl
differs_more (Word word) xs ys = refl

-- of the first value and those behind it
pub names_first : (values : List code.Value) (d : code.Value) (ys : List Value) → 1 ≤ length values
    → names_differ (map value_in values ++ ys)
    ≡ differs_from (value_in (get_or values 0 d)) (map value_in (behind 1 values)) && differs_from (value_in (get_or values 0 d)) ys && names_differ (map value_in (behind 1 values) ++ ys)
names_first values d ys l =
    let v = value_in (get_or values 0 d) in
    let all = begins value_in values (get_or values 0 d) l (first_read values d l) in
    ap (λ (xs : List Value). names_differ (xs ++ ys)) all
    ∙ ap (λ b. b && names_differ (map value_in (behind 1 values) ++ ys)) (differs_more v (map value_in (behind 1 values)) ys)

pub first_false : (whole a b c : Bool) → whole ≡ a && b && c → a ≡ false → false ≡ whole
first_false whole a b c e f = sym (e ∙ ap (λ x. x && b && c) f)

pub second_false : (whole a b c : Bool) → whole ≡ a && b && c → b ≡ false → false ≡ whole
second_false whole true b c e f = sym (e ∙ ap (λ x. x && c) f)
second_false whole false b c e f = sym e

pub both_true : (whole a b c : Bool) → whole ≡ a && b && c → a ≡ true → b ≡ true → c ≡ whole
both_true whole a b c e f g = sym (e ∙ (ap (λ x. x && b && c) f ∙ ap (λ x. x && c) g))
