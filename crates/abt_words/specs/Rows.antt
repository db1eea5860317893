-- Rows: what a line of words is.
use Rattle.std.specs.Prelude.{ℕ, List, map, ◌++◌, Option, option_map}
use Rattle.std.proofs.Common.{Bor}
use Rattle.abt_words.specs.declared.rows.LineName.{LineName}
use Rattle.abt_words.specs.declared.row.Content.{Content}
use Rattle.abt_words.specs.declared.row.Access.{Access}
use Rattle.abt_words.specs.declared.row.WordKindOf.{WordKindOf}
use Rattle.abt_words.specs.declared.row.WordKindOf.TheVariants as kinds
use Rattle.abt_words.specs.declared.row.PlaceOf.{PlaceOf}
use Rattle.abt_words.specs.declared.row.OptionOf.{OptionOf}
use Rattle.abt_words.specs.declared.row.RowOf.{RowOf}
use Rattle.abt_words.specs.declared.rows.TheConstants.{RUN_ROWS, OTHER_ROWS}

-- what a word may be: the name of a file that holds something and is read or written, a number within bounds, a number of 64 bits with or without a sign, or one of some words
pub data WordKind : Type 0 where
  File : (content : Content) (access : Access) → WordKind
  Number : (least most : ℕ) → WordKind
  Signed : WordKind
  OneOf : (words : List (List ℕ)) → WordKind

-- one word of a line, and how it is shown
pub record Place : Type 0 where
  pub shown : List ℕ
  pub kind : WordKind

-- an option: its word, and what the next word is, where it takes a value
pub record LineOption : Type 0 where
  pub word : List ℕ
  pub value : Option Place

-- a line of words: which it is, its keyword, the words that follow, its options, and the lines of its sentence
pub record Row : Type 0 where
  pub line : LineName
  pub keyword : List (List ℕ)
  pub places : List Place
  pub options : List LineOption
  pub tells : List (List ℕ)

-- ---- the rows of the code, as these

-- a text, and texts
abbrev pub Text : Type 0
Text = Bor (List ℕ)

abbrev pub Texts : Type 0
Texts = Bor (List Text)

abbrev pub texts_in : Texts → List (List ℕ)
texts_in texts = map (λ text. text.now) texts.now

abbrev pub kind_in : WordKindOf Texts → WordKind
kind_in (kinds.File content access) = File content access
kind_in (kinds.Number least most) = Number least most
kind_in kinds.Signed = Signed
kind_in (kinds.OneOf words) = OneOf (texts_in words)

abbrev pub place_in : PlaceOf Text Texts → Place
place_in place = record { shown = place.shown.now; kind = kind_in place.kind }

abbrev pub option_in : OptionOf Text Texts → LineOption
option_in option = record { word = option.word.now; value = option_map place_in option.value }

abbrev pub CodeRow : Type 0
CodeRow = RowOf Texts (Bor (List (PlaceOf Text Texts))) (Bor (List (OptionOf Text Texts)))

abbrev pub row_in : CodeRow → Row
row_in row = record { line = row.line; keyword = texts_in row.keyword; places = map place_in row.places.now; options = map option_in row.options.now; tells = texts_in row.tells }

-- ---- the rows of the constants, as these

-- what a constant refers to
abbrev pub Named : Type 0 → Type 0
Named T = record { now : T }

abbrev pub named_texts : Named (List (Named (List ℕ))) → List (List ℕ)
named_texts texts = map (λ text. text.now) texts.now

abbrev pub kind_of : WordKindOf (Named (List (Named (List ℕ)))) → WordKind
kind_of (kinds.File content access) = File content access
kind_of (kinds.Number least most) = Number least most
kind_of kinds.Signed = Signed
kind_of (kinds.OneOf words) = OneOf (named_texts words)

abbrev pub NamedPlace : Type 0
NamedPlace = PlaceOf (Named (List ℕ)) (Named (List (Named (List ℕ))))

abbrev pub NamedOption : Type 0
NamedOption = OptionOf (Named (List ℕ)) (Named (List (Named (List ℕ))))

abbrev pub place_of : NamedPlace → Place
place_of place = record { shown = place.shown.now; kind = kind_of place.kind }

abbrev pub option_of : NamedOption → LineOption
option_of option = record { word = option.word.now; value = option_map place_of option.value }

abbrev pub row_of : RowOf (Named (List (Named (List ℕ)))) (Named (List NamedPlace)) (Named (List NamedOption)) → Row
row_of row = record { line = row.line; keyword = named_texts row.keyword; places = map place_of row.places.now; options = map option_of row.options.now; tells = named_texts row.tells }

-- the rows of the program: those of lines that make, measure or check runs, and the others
unfoldable pub run_rows : List Row
run_rows = map row_of RUN_ROWS.now

unfoldable pub other_rows : List Row
other_rows = map row_of OTHER_ROWS.now

unfoldable pub the_rows : List Row
the_rows = run_rows ++ other_rows
