-- At each place a token is read, or a refusal is known.
use Rattle.std.proofs.Common.{◌≡◌, ℕ, ◌+◌, ◌<◌, ◌⊎◌, inl, inr, Bool, true, false, List, [], ◌∷◌, length, Option, Some, None, Result, Ok, Err, arith, refl, subst}
use Rattle.std.specs.Prelude.{slice_index, slice_range, ℤ, pos, negsuc, FitsSigned}
use Rattle.std.specs.Int.{w64}
use Rattle.std.specs.Str.Parse.{digits_value}
use Rattle.std.proofs.lemmas.Bool.{cases_lt, cases_eq, cases_Bool}
use Rattle.fzn_token.specs.declared.token.Word.{Word}
use Rattle.fzn_token.specs.declared.token.Mark.{Mark}
use Rattle.fzn_token.specs.declared.token.Token.{Token}
use Rattle.fzn_token.specs.declared.token.TokenKind.TheVariants as kind
use Rattle.fzn_token.specs.declared.refusal.Refusal.TheVariants as refusal
use Rattle.fzn_token.specs.declared.refusal.ModelError.{ModelError}
use Rattle.fzn_token.specs.declared.refusal.ModelError.TheVariants as errors
use Rattle.fzn_token.specs.Bytes.{is_letter, is_name_byte, is_digit_in, IsWholeRun}
use Rattle.fzn_token.specs.Numbers.{IsSign, IsPrefixed, decimal, hexadecimal, octal}
use Rattle.fzn_token.specs.Words.{mark_text}
use Rattle.fzn_token.specs.Lookup.{word_in, mark_in}
use Rattle.fzn_token.specs.Tokens.{IsLongest}
use Rattle.fzn_token.specs.Reading.{Reads}
use Rattle.fzn_token.proofs.Classes.{class_of, number, other, mark_byte}
use Rattle.fzn_token.proofs.LongestNames.{word_longest, name_longest}
use Rattle.fzn_token.proofs.LongestTexts.{text_longest, text_missing}
use Rattle.fzn_token.proofs.LongestMarks.{mark_longest, mark_missing}
use Rattle.fzn_token.proofs.LongestNumbers.{number_class, whole_longest, float_longest, minus_alone, some_digits}
use Rattle.fzn_token.proofs.NumberForms.{hex_most, octal_most, plain_at_most, float_at_most}
use Rattle.fzn_token.proofs.Extents.{tail_goes_on}
use Rattle.law_inputs.proofs.Searches.{whole_run, EndsOrNot, end_or_not}
use Rattle.law_inputs.proofs.Tails.{PrefixOrNot, prefix_or_not, TailOrNot, tail_or_not}

-- what is read at a place
abbrev pub IsRead : List ℕ → ℕ → Type 0
IsRead text i = (answer : Result Token ModelError) × Reads text i answer

-- ---- names

name_read : (text : List ℕ) (i j : ℕ) → IsWholeRun is_name_byte text i j → is_letter (slice_index text i) ≡ true → i < length text → (o : Option Word) → word_in (slice_range text i j) ≡ o → IsRead text i
name_read text i j whole letter below None e =
    (Ok (record { kind = kind.Name; from = i; to = j }), (refl, record { longest = name_longest text i j whole letter below e; in_range = tt }))
name_read text i j whole letter below (Some word) e =
    (Ok (record { kind = kind.Word word; from = i; to = j }), (refl, record { longest = word_longest text i j whole letter below word e; in_range = tt }))

-- ---- texts

text_read : (text : List ℕ) (i : ℕ) → i < length text → slice_index text i ≡ 34 → EndsOrNot text (i + 1) → IsRead text i
text_read text i below quote e = elim e [
  | inl none ↦ (Err (errors.Refused (refusal.Lex i)), (refl, text_missing text i below quote none))
  | inr some ↦ (Ok (record { kind = kind.Text; from = i; to = some.0 }), (refl, record { longest = text_longest text i below quote some.1; in_range = tt }))
]

-- ---- numbers

-- a number has 64 bits, or it has not
fits_or_not : (z : ℤ) → FitsSigned w64 z ⊎ (FitsSigned w64 z → ⊥)
fits_or_not (pos n) = elim (cases_lt n 9223372036854775808) [ inl low ↦ inl (record { sfits = low }) | inr high ↦ inr (λ f. let a = f.sfits in omega arith) ]
fits_or_not (negsuc n) = elim (cases_lt n 9223372036854775808) [ inl low ↦ inl (record { sfits = low }) | inr high ↦ inr (λ f. let a = f.sfits in omega arith) ]

integer_read : (text : List ℕ) (i to : ℕ) (z : ℤ) → IsLongest (kind.Whole z) text i to → IsRead text i
integer_read text i to z longest = elim (fits_or_not z) [
  | inl fits ↦ (Ok (record { kind = kind.Whole z; from = i; to = to }), (refl, record { longest = longest; in_range = fits }))
  | inr wide ↦ (Err (errors.Refused (refusal.IntRange i)), (refl, (z, to, longest, wide)))
]

module _ (text : List ℕ) (i start end : ℕ) (minus : Bool) (sign : IsSign minus text i start) (whole : IsWholeRun (is_digit_in 10) text start end) (some : start < end) where
  -- the first byte is that of a number
  first_class : class_of (slice_index text i) ≡ number
  first_class = number_class text i start end minus sign whole some

  -- digits with no prefix before them
  plain_read : ((k j : ℕ) → IsPrefixed (48 ∷ 120 ∷ []) 16 text start k j → ⊥) → ((k j : ℕ) → IsPrefixed (48 ∷ 111 ∷ []) 8 text start k j → ⊥) → TailOrNot text end → IsRead text i
  plain_read no_hex no_octal tail = elim tail [
    | inl none ↦ integer_read text i end _
        (whole_longest text i start end minus sign whole some first_class end (plain_at_most text start end whole no_hex no_octal none) (digits_value 10 (slice_range text start end)) (decimal (record { some = some; run = whole.run }) refl))
    | inr t ↦ (
      Ok (record { kind = kind.Float; from = i; to = t.0 }),
      (
        refl,
        record {
          longest = float_longest text i start end minus sign whole some first_class t.0 (float_at_most text start end whole t.0 (tail_goes_on t.1) no_hex no_octal t.2) t.1;
          in_range = tt;
        },
      ),
    )
  ]

  -- digits that may have an octal prefix
  octal_read : ((k j : ℕ) → IsPrefixed (48 ∷ 120 ∷ []) 16 text start k j → ⊥) → PrefixOrNot 111 8 text start → IsRead text i
  octal_read no_hex prefix = elim prefix [
    | inl none ↦ plain_read no_hex none (tail_or_not text end)
    | inr p ↦ integer_read text i p.0 _
        (whole_longest text i start end minus sign whole some first_class p.0 (octal_most text start end whole no_hex p.0 (p.1, p.2)) (digits_value 8 (slice_range text (start + 2) p.0)) (octal (start + 2) p.1 refl))
  ]

  -- digits that may have either prefix
  digits_read : PrefixOrNot 120 16 text start → IsRead text i
  digits_read prefix = elim prefix [
    | inl none ↦ octal_read none (prefix_or_not 111 8 text start)
    | inr p ↦ integer_read text i p.0 _
        (whole_longest text i start end minus sign whole some first_class p.0 (hex_most text start end whole p.0 (p.1, p.2)) (digits_value 16 (slice_range text (start + 2) p.0)) (hexadecimal (start + 2) p.1 refl))
  ]

-- a number without a sign
number_read : (text : List ℕ) (i : ℕ) → i < length text → is_digit_in 10 (slice_index text i) ≡ true → IsRead text i
number_read text i below digit =
    let r = whole_run (is_digit_in 10) text i (omega arith) in
    digits_read text i i r.0 false refl r.1 (some_digits text i r.0 below digit r.1) (prefix_or_not 120 16 text i)

-- a `-`, and a number if digits follow
minus_read : (text : List ℕ) (i : ℕ) → i < length text → slice_index text i ≡ 45 → IsRead text i
minus_read text i below minus =
    let sign : IsSign true text i (i + 1) = (below, minus, refl) in
    let r = whole_run (is_digit_in 10) text (i + 1) (omega arith) in
    elim (cases_lt (i + 1) r.0) [
      | inl some ↦ digits_read text i (i + 1) r.0 true sign r.1 some (prefix_or_not 120 16 text (i + 1))
      | inr none ↦
          let ordered = r.1.run.ordered in
          let same : r.0 ≡ i + 1 = omega arith in
          (Err (errors.Refused (refusal.Lex i)), (refl, minus_alone text i sign (subst (IsWholeRun (is_digit_in 10) text (i + 1)) same r.1)))
    ]

-- ---- marks

-- the byte stands at the next place too
abbrev IsTwice : List ℕ → ℕ → Type 0
IsTwice text i = (i + 1 < length text) × (slice_index text (i + 1) ≡ slice_index text i)

twice_or_not : (text : List ℕ) (i : ℕ) → IsTwice text i ⊎ (IsTwice text i → ⊥)
twice_or_not text i = elim (cases_lt (i + 1) (length text)) [
  | inr over ↦ inr (λ t. let a = t.0 in omega arith)
  | inl below ↦ elim (cases_eq (slice_index text (i + 1)) (slice_index text i)) [ inl same ↦ inl (below, same) | inr differ ↦ inr (λ t. differ t.1) ]
]

mark_read : (text : List ℕ) (i : ℕ) → i < length text → class_of (slice_index text i) ≡ other → (twice : Bool) → (twice ≡ true → IsTwice text i) → (IsTwice text i → twice ≡ true) → (o : Option Mark) → mark_in twice (slice_index text i) ≡ o → IsRead text i
mark_read text i below here twice is_so so None e = (Err (errors.Refused (refusal.Lex i)), (refl, mark_missing text i here twice so e))
mark_read text i below here twice is_so so (Some mark) e =
    (Ok (record { kind = kind.Mark mark; from = i; to = i + length (mark_text mark) }), (refl, record { longest = mark_longest text i here twice so below is_so mark e; in_range = tt }))

any_mark_read : (text : List ℕ) (i : ℕ) → i < length text → class_of (slice_index text i) ≡ other → IsRead text i
any_mark_read text i below here = elim (twice_or_not text i) [
  | inl so ↦ mark_read text i below here true (λ e. so) (λ t. refl) (mark_in true (slice_index text i)) refl
  | inr not_so ↦ mark_read text i below here false (λ e. absurd cc) (λ t. absurd (not_so t)) (mark_in false (slice_index text i)) refl
]

-- at each place in the text
pub token_read : (text : List ℕ) (i : ℕ) → i < length text → IsRead text i
token_read text i below =
    let b = slice_index text i in
    elim (cases_Bool (is_letter b)) [
      | inl letter ↦
          let r = whole_run is_name_byte text i (omega arith) in
          name_read text i r.0 r.1 letter below (word_in (slice_range text i r.0)) refl
      | inr no_letter ↦ elim (cases_eq b 34) [
        | inl quote ↦ text_read text i below quote (end_or_not text (i + 1))
        | inr no_quote ↦ elim (cases_Bool (is_digit_in 10 b)) [
          | inl digit ↦ number_read text i below digit
          | inr no_digit ↦ elim (cases_eq b 45) [
            | inl minus ↦ minus_read text i below minus
            | inr no_minus ↦ any_mark_read text i below (mark_byte b no_letter no_digit no_minus no_quote)
          ]
        ]
      ]
    ]
