-- What usage and help print of the rows.
use Rattle.std.specs.Prelude.{ℕ, nat_lt, cond, List, [], ◌∷◌, ◌++◌, flat_map, length, drop, Some, None, codes, decimal}
use Rattle.abt_words.specs.declared.row.Content.{Content}
use Rattle.abt_words.specs.declared.row.Content.TheVariants.{Model, Log, Schedule, Order, Formula, Proof, Story}
use Rattle.abt_words.specs.declared.row.Access.{Access}
use Rattle.abt_words.specs.declared.row.Access.TheVariants.{Read, Written}
use Rattle.abt_words.specs.declared.texts.TheConstants.{BLANKS, HEAD, TAIL}
use Rattle.abt_words.specs.Rows.{File, Number, Signed, OneOf, Place, LineOption, Row}

-- texts with something before each and something behind each
abbrev pub each_text : List ℕ → List ℕ → List (List ℕ) → List ℕ
each_text before behind texts = flat_map (λ text. before ++ text ++ behind) texts

-- the words of the keyword, each behind a blank but the first
abbrev pub keyword_text : List (List ℕ) → List ℕ
keyword_text [] = []
keyword_text (word ∷ words) = word ++ each_text (codes " ") [] words

-- ---- usage

abbrev pub content_text : Content → List ℕ
content_text Model = codes "model"
content_text Log = codes "log"
content_text Schedule = codes "schedule"
content_text Order = codes "order"
content_text Formula = codes "formula"
content_text Proof = codes "proof"
content_text Story = codes "story"

abbrev pub access_text : Access → List ℕ
access_text Read = codes "read"
access_text Written = codes "written"

-- what a word is: its kind, how it is shown, and what the kind says, with `:` between
abbrev pub place_usage : Place → List ℕ
place_usage place = elim place.kind [
  | File content access ↦ codes "file:" ++ place.shown ++ codes ":" ++ content_text content ++ codes ":" ++ access_text access
  | Number least most ↦ codes "number:" ++ place.shown ++ codes ":" ++ decimal least ++ codes ":" ++ decimal most
  | Signed ↦ codes "signed:" ++ place.shown ++ codes ":-9223372036854775808:9223372036854775807"
  | OneOf words ↦ codes "word:" ++ place.shown ++ each_text (codes ":") [] words
]

-- an option, and behind `=` what its value is
abbrev pub option_usage : LineOption → List ℕ
option_usage option = option.word ++ elim option.value [ None ↦ [] | Some place ↦ codes "=" ++ place_usage place ]

-- a row: its keyword, its places and its options, with a blank between
abbrev pub row_usage : Row → List ℕ
row_usage row = keyword_text row.keyword ++ flat_map (λ place. codes " " ++ place_usage place) row.places ++ flat_map (λ option. codes " " ++ option_usage option) row.options ++ codes "\n"

unfoldable pub usage_text : List Row → List ℕ
usage_text rows = flat_map row_usage rows

-- ---- help

-- an option as help shows it
abbrev pub option_shown : LineOption → List ℕ
option_shown option = codes " [" ++ option.word ++ elim option.value [ None ↦ [] | Some place ↦ codes " " ++ place.shown ] ++ codes "]"

-- the form of a line
abbrev pub row_form : Row → List ℕ
row_form row = codes "  abt " ++ keyword_text row.keyword ++ flat_map (λ place. codes " " ++ place.shown) row.places ++ flat_map option_shown row.options

-- what stands between a form of this width and its sentence: blanks up to the column of sentences, or a new line where fewer than two would
abbrev pub gap : ℕ → List ℕ
gap width = cond (nat_lt 22 width) (codes "\n" ++ BLANKS.now) (drop width BLANKS.now)

-- the lines of a sentence, the first of which goes on after the form
abbrev pub sentence : List (List ℕ) → List ℕ
sentence [] = codes "\n"
sentence (line ∷ lines) = line ++ codes "\n" ++ each_text BLANKS.now (codes "\n") lines

abbrev pub row_help : Row → List ℕ
row_help row = row_form row ++ gap (length (row_form row)) ++ sentence row.tells

unfoldable pub help_text : List Row → List ℕ
help_text rows = HEAD.now ++ flat_map row_help rows ++ TAIL.now
