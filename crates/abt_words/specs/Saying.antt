-- What words say.
use Rattle.std.specs.Prelude.{◌≡◌, ◌≢◌, ◌⊎◌, ℕ, suc, ℤ, FitsSigned, ◌^◌, ◌<◌, ◌≤◌, Bool, true, false, ◌&&◌, cond, IsTrue, List, [], ◌∷◌, ◌++◌, map, flat_map, set, get_or, slice_get, Option, Some, None, option_map, decimal, ⊤}
use Rattle.std.specs.Str.{byte, bytes_eq}
use Rattle.std.specs.Int.{w64}
use Rattle.std.specs.Fmt.{signed_decimal}
use Rattle.abt_words.specs.Rows.{WordKind, File, Place, LineOption, Row}
use Rattle.abt_words.specs.Rows as rows

-- ---- values

-- what stands in a place, or is given to an option: nothing, that an option without a value is given, the name of a file, a number, a number with or without a sign, or one of some words
pub data Value : Type 0 where
  Absent : Value
  Given : Value
  Name : (name : List ℕ) → Value
  Number : (n : ℕ) → Value
  Signed : (z : ℤ) → Value
  Word : (word : List ℕ) → Value

-- the words of a value
abbrev pub value_words : Value → List (List ℕ)
value_words Absent = []
value_words Given = []
value_words (Name name) = name ∷ []
value_words (Number n) = decimal n ∷ []
value_words (Signed z) = signed_decimal z ∷ []
value_words (Word word) = word ∷ []

-- a file name is not empty, and does not begin with `-`
abbrev pub IsFileName : List ℕ → Type 0
IsFileName [] = ⊥
IsFileName (b ∷ bytes) = b ≢ byte "-"

-- the word is one of these
abbrev pub IsAmong : List ℕ → List (List ℕ) → Type 0
IsAmong word [] = ⊥
IsAmong word (other ∷ words) = (other ≡ word) ⊎ IsAmong word words

-- the value is of this kind
abbrev pub Fits : WordKind → Value → Type 0
Fits (File content access) (Name name) = IsFileName name
Fits (rows.Number least most) (Number n) = (least ≤ n) × (n ≤ most) × (n < 2 ^ 64)
Fits rows.Signed (Signed z) = FitsSigned w64 z
Fits (rows.OneOf words) (Word word) = IsAmong word words
Fits kind value = ⊥

-- the option takes this value
abbrev pub FitsOption : Option Place → Value → Type 0
FitsOption None Given = ⊤
FitsOption None value = ⊥
FitsOption (Some place) value = Fits place.kind value

-- the values are of the kinds of the places, one for each
abbrev pub Fill : List Place → List Value → Type 0
Fill [] [] = ⊤
Fill [] (value ∷ values) = ⊥
Fill (place ∷ places) [] = ⊥
Fill (place ∷ places) (value ∷ values) = Fits place.kind value × Fill places values

-- ---- options

-- the place of the first option of this word
abbrev pub place_of : List LineOption → List ℕ → Option ℕ
place_of [] word = None
place_of (option ∷ options) word = cond (bytes_eq option.word word) (Some 0) (option_map suc (place_of options word))

-- the words give options, in any order and each at most once: there is no word; or the first ones are an option that was not given and its value, and the others give the rest
pub data Gives (options : List LineOption) : List (List ℕ) → List Value → List Value → Type 0 where
  nothing : {words : List (List ℕ)} {before after : List Value} → words ≡ [] → after ≡ before → Gives options words before after
  gives : {words : List (List ℕ)} {before after : List Value} (word : List ℕ) (i : ℕ) (option : LineOption) (value : Value) (more : List (List ℕ))
      → place_of options word ≡ Some i → slice_get options i ≡ Some option → FitsOption option.value value
      → words ≡ word ∷ value_words value ++ more → get_or before i Absent ≡ Absent
      → Gives options more (set before i value) after → Gives options words before after

-- ---- lines

-- the value is this name
abbrev pub has_name : List ℕ → Value → Bool
has_name name (Name other) = bytes_eq other name
has_name name value = false

-- none of the values is this name
abbrev pub is_new_name : List ℕ → List Value → Bool
is_new_name name [] = true
is_new_name name (value ∷ values) = cond (has_name name value) false (is_new_name name values)

-- none of the others is the same name as the value
abbrev pub differs_from : Value → List Value → Bool
differs_from (Name name) values = is_new_name name values
differs_from value values = true

-- no two names among the values are the same
abbrev pub names_differ : List Value → Bool
names_differ [] = true
names_differ (value ∷ values) = differs_from value values && names_differ values

-- what words say: a row, the values of its places, and what its options are given, `Absent` for one that is not
pub record Said : Type 0 where
  pub row : Row
  pub values : List Value
  pub settings : List Value

-- no option is given
abbrev pub none_given : List LineOption → List Value
none_given options = map (λ option. Absent) options

-- the words say this row with these values: they are its keyword, the words of its places, and its options; no two file names are the same
pub record Says (row : Row) (words : List (List ℕ)) (values settings : List Value) : Type 0 where
  pub options : List (List ℕ)
  pub words_are : words ≡ row.keyword ++ (flat_map value_words values ++ options)
  pub fill : Fill row.places values
  pub gives : Gives row.options options (none_given row.options) settings
  pub names : IsTrue (names_differ (values ++ settings))

-- the words say this, of the rows
pub record IsSaidBy (rows : List Row) (words : List (List ℕ)) (said : Said) : Type 0 where
  pub place : ℕ
  pub row : slice_get rows place ≡ Some said.row
  pub says : Says said.row words said.values said.settings

-- ---- what is read of it

-- the value of a place, and what the option of a word is given
abbrev pub value_at : Said → ℕ → Value
value_at said place = get_or said.values place Absent

abbrev pub setting_of : List LineOption → List Value → List ℕ → Value
setting_of options settings word = elim (place_of options word) [ None ↦ Absent | Some place ↦ get_or settings place Absent ]

abbrev pub setting_at : Said → List ℕ → Value
setting_at said word = setting_of said.row.options said.settings word

-- the name, the word or the number that a value is
abbrev pub name_in : Value → List ℕ
name_in (Name name) = name
name_in value = []

abbrev pub word_in : Value → List ℕ
word_in (Word word) = word
word_in value = []

abbrev pub number_in : Value → ℕ
number_in (Number n) = n
number_in value = 0

-- the name or the number, where the value is one
abbrev pub given_name : Value → Option (List ℕ)
given_name (Name name) = Some name
given_name value = None

abbrev pub given_number : Value → Option ℕ
given_number (Number n) = Some n
given_number value = None

abbrev pub given_signed : Value → Option ℤ
given_signed (Signed z) = Some z
given_signed value = None

-- an option without a value is given
abbrev pub is_given : Value → Bool
is_given Given = true
is_given value = false

-- ---- tables

-- the keywords differ at a word that both have
abbrev pub differ : List (List ℕ) → List (List ℕ) → Bool
differ [] other = false
differ (word ∷ words) [] = false
differ (word ∷ words) (other ∷ others) = cond (bytes_eq word other) (differ words others) true

-- this keyword differs from those of the rows
abbrev pub differs_from_all : List (List ℕ) → List Row → Bool
differs_from_all keyword [] = true
differs_from_all keyword (row ∷ rows) = differ keyword row.keyword && differs_from_all keyword rows

-- no two rows share their words
abbrev pub are_apart : List Row → Bool
are_apart [] = true
are_apart (row ∷ rows) = differs_from_all row.keyword rows && are_apart rows
