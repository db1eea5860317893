-- The value of digits, as far as they are read.
use Rattle.std.proofs.Common.{◌≡◌, ℕ, ◌+◌, ◌*◌, ◌<◌, ◌≤◌, List, ◌++◌, length, take, drop, get_or, arith, sym, ◌∙◌, refl, ap}
use Rattle.std.specs.Prelude.{map}
use Rattle.std.specs.Str.Parse.{digits_value}
use Rattle.std.specs.Int.Digits.{number_from_digits, number_from_digits_after}
use Rattle.std.specs.Char.{digit_value}
use Rattle.std.proofs.lemmas.Int.Digits.{digits_value_is, digits_value_more, number_after_append, number_after_ge}
use Rattle.std.proofs.lemmas.List.{take-append-drop, map-append, take_all}

-- more digits do not make the number less
pub value_take : (base : ℕ) (bs : List ℕ) (i : ℕ) → 0 < base → digits_value base (take i bs) ≤ digits_value base bs
value_take base bs i some =
    let whole : digits_value base bs ≡ number_from_digits_after base (number_from_digits base (map digit_value (take i bs))) (map digit_value (drop i bs)) =
    ap (digits_value base) (sym (take-append-drop i bs)) ∙ digits_value_is base (take i bs ++ drop i bs) ∙ ap (number_from_digits base) (map-append digit_value (take i bs) (drop i bs)) ∙ number_after_append base 0 (map digit_value (take i bs)) (map digit_value (drop i bs)) in
    let front = digits_value_is base (take i bs) in
    let more = number_after_ge base (number_from_digits base (map digit_value (take i bs))) (map digit_value (drop i bs)) some in
    rw (whole, front) more

-- one more digit
pub value_more : (base : ℕ) (bs : List ℕ) (i n b d : ℕ) → i < length bs → n ≡ digits_value base (take i bs) → b ≡ base → d ≡ digit_value (get_or bs i 0) → digits_value base (take (i + 1) bs) ≡ n * b + d
value_more base bs i n b d below so_far b_is d_is = digits_value_more base bs i below ∙ rw (sym so_far, sym b_is, sym d_is) refl

-- the number fits, so each front of its digits does
pub sum_fits : (base : ℕ) (bs : List ℕ) (i n b d most : ℕ) → i < length bs → n ≡ digits_value base (take i bs) → b ≡ base → d ≡ digit_value (get_or bs i 0) → 2 ≤ base → digits_value base bs < most → n * b + d < most
sum_fits base bs i n b d most below so_far b_is d_is some small =
    let whole = value_take base bs (i + 1) (omega arith) in
    let front = value_more base bs i n b d below so_far b_is d_is in
    omega arith

-- all digits are read
pub value_all : (base : ℕ) (bs : List ℕ) (i n : ℕ) → length bs ≤ i → n ≡ digits_value base (take i bs) → n ≡ digits_value base bs
value_all base bs i n past so_far = so_far ∙ ap (digits_value base) (take_all i bs past)
