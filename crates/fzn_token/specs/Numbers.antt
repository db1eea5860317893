-- Integers and floats: each says that the bytes of a text from place i up to place j are one.
use Rattle.std.specs.Prelude.{◌≡◌, ℕ, ℤ, pos, neg_ℤ, ◌<◌, Bool, true, false, ◌⊎◌, List, slice_range, codes}
use Rattle.std.specs.Str.Parse.{digits_value}
use Rattle.fzn_token.specs.Bytes.{is_digit_in, IsRun, IsHere}

-- one or more digits in this base
pub record IsDigits (base : ℕ) (text : List ℕ) (i j : ℕ) : Type 0 where
  pub some : i < j
  pub run : IsRun (is_digit_in base) text i j

-- these bytes up to place k, as `0x`, and digits from there on
pub record IsPrefixed (front : List ℕ) (base : ℕ) (text : List ℕ) (i k j : ℕ) : Type 0 where
  pub front_here : IsHere front text i k
  pub digits : IsDigits base text k j

-- a natural number n: decimal digits, `0x` and hexadecimal digits, or `0o` and octal digits
pub data IsNatural (text : List ℕ) (i j n : ℕ) : Type 0 where
  decimal : IsDigits 10 text i j → n ≡ digits_value 10 (slice_range text i j) → IsNatural text i j n
  hexadecimal : (k : ℕ) → IsPrefixed (codes "0x") 16 text i k j → n ≡ digits_value 16 (slice_range text k j) → IsNatural text i j n
  octal : (k : ℕ) → IsPrefixed (codes "0o") 8 text i k j → n ≡ digits_value 8 (slice_range text k j) → IsNatural text i j n

-- a `-`, where `minus` says so, or nothing
abbrev pub IsSign : Bool → List ℕ → ℕ → ℕ → Type 0
IsSign false text i j = i ≡ j
IsSign true text i j = IsHere (codes "-") text i j

-- the number with its sign
abbrev pub signed : Bool → ℕ → ℤ
signed false n = pos n
signed true n = neg_ℤ (pos n)

-- an integer of value z: an optional `-` and a natural number
pub record IsInteger (text : List ℕ) (i j : ℕ) (z : ℤ) : Type 0 where
  pub minus : Bool
  pub start : ℕ
  pub n : ℕ
  pub sign : IsSign minus text i start
  pub natural : IsNatural text start j n
  pub value : z ≡ signed minus n

-- `.` and decimal digits
abbrev pub IsFraction : List ℕ → ℕ → ℕ → Type 0
IsFraction text i j = (k : ℕ) × IsHere (codes ".") text i k × IsDigits 10 text k j

-- `e` or `E`
abbrev pub IsExponentLetter : List ℕ → ℕ → ℕ → Type 0
IsExponentLetter text i j = IsHere (codes "e") text i j ⊎ IsHere (codes "E") text i j

-- `+`, `-` or nothing
abbrev pub IsExponentSign : List ℕ → ℕ → ℕ → Type 0
IsExponentSign text i j = (i ≡ j) ⊎ (IsHere (codes "+") text i j ⊎ IsHere (codes "-") text i j)

-- `e` or `E`, an optional sign and decimal digits
abbrev pub IsExponent : List ℕ → ℕ → ℕ → Type 0
IsExponent text i j = (k l : ℕ) × IsExponentLetter text i k × IsExponentSign text k l × IsDigits 10 text l j

-- a fraction, an exponent, or both in this order
pub data IsTail (text : List ℕ) (i j : ℕ) : Type 0 where
  fraction : IsFraction text i j → IsTail text i j
  exponent : IsExponent text i j → IsTail text i j
  both : (k : ℕ) → IsFraction text i k → IsExponent text k j → IsTail text i j

-- a float: an optional `-`, decimal digits, and a fraction, an exponent or both
pub record IsFloat (text : List ℕ) (i j : ℕ) : Type 0 where
  pub minus : Bool
  pub start : ℕ
  pub middle : ℕ
  pub sign : IsSign minus text i start
  pub digits : IsDigits 10 text start middle
  pub tail : IsTail text middle j
