-- The values of the code, as these.
use Rattle.std.specs.Prelude.{◌≡◌, ◌≤◌, nat_le, Bool, true, ◌&&◌, ℕ, suc, List, [], ◌∷◌, ◌++◌, length, map, flat_map, take, set, string_bytes}
use Rattle.std.specs.declared.string.String.{String}
use Rattle.std.specs.declared.alloc.Global.{Global}
use Rattle.abt_words.specs.Rows.{Place, Row, row_in}
use Rattle.abt_words.specs.declared.said.Said.{Said}
use Rattle.abt_words.specs.declared.said.Values.{Values}
use Rattle.abt_words.specs.declared.said.TheConstants.{MOST}
use Rattle.abt_words.specs.declared.value.Value.{Value}
use Rattle.abt_words.specs.declared.value.Value.TheVariants as values
use Rattle.abt_words.specs.Saying as saying
use Rattle.abt_words.specs.Saying.{Fill, value_words, Absent, Given, Name, Number, Signed, Word}

-- the bytes of each text
abbrev pub texts : List (String Global) → List (List ℕ)
texts strings = map string_bytes strings

abbrev pub value_in : Value → saying.Value
value_in values.Absent = Absent
value_in values.Given = Given
value_in (values.Name name) = Name name.now
value_in (values.Number n) = Number n
value_in (values.Signed z) = Signed z
value_in (values.Word word) = Word word.now

-- the list with these values from a place on
abbrev pub written : List saying.Value → ℕ → List saying.Value → List saying.Value
written list at [] = list
written list at (value ∷ values) = written (set list at value) (suc at) values

-- the values of the code
abbrev pub values_in : Values → List saying.Value
values_in values = map value_in values.list

-- what words say, of the code
abbrev pub said_in : Said → saying.Said
said_in said = record { row = row_in said.row; values = map value_in (take (length said.row.places.now) said.values.list); settings = map value_in (take (length said.row.options.now) said.settings.list) }

-- the words begin with values of the places, and go on so; the list has these values from a place on
pub record Fills (places : List Place) (words rest : List (List ℕ)) (before : List saying.Value) (at : ℕ) (now : List saying.Value) : Type 0 where
  pub values : List saying.Value
  pub fill : Fill places values
  pub words_are : words ≡ flat_map value_words values ++ rest
  pub now_is : now ≡ written before at values

-- there is room for the row's values and settings
abbrev pub HasRoom : Row → Type 0
HasRoom row = (length row.places ≤ MOST) × (length row.options ≤ MOST)

-- there is room for those of each row
abbrev pub have_room : List Row → Bool
have_room [] = true
have_room (row ∷ rows) = nat_le (length row.places) MOST && nat_le (length row.options) MOST && have_room rows
