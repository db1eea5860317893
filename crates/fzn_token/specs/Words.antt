-- Names, and how keywords and marks are written.
use Rattle.std.specs.Prelude.{◌≡◌, ◌<◌, true, ℕ, List, slice_index, codes}
use Rattle.fzn_token.specs.Bytes.{is_letter, is_name_byte, IsRun, IsHere}
use Rattle.fzn_token.specs.declared.token.Word.{Word}
use Rattle.fzn_token.specs.declared.token.Word.TheVariants.{Array, Bool, Constraint, False, Float, Int, Maximize, Minimize, Of, Predicate, Satisfy, Set, Solve, True, Var}
use Rattle.fzn_token.specs.declared.token.Mark.{Mark}
use Rattle.fzn_token.specs.declared.token.Mark.TheVariants.{ColonColon, DotDot, Colon, Semicolon, Comma, Equals, OpenParen, CloseParen, OpenBracket, CloseBracket, OpenBrace, CloseBrace}

-- how a keyword is written
abbrev pub word_text : Word → List ℕ
word_text Array = codes "array"
word_text Bool = codes "bool"
word_text Constraint = codes "constraint"
word_text False = codes "false"
word_text Float = codes "float"
word_text Int = codes "int"
word_text Maximize = codes "maximize"
word_text Minimize = codes "minimize"
word_text Of = codes "of"
word_text Predicate = codes "predicate"
word_text Satisfy = codes "satisfy"
word_text Set = codes "set"
word_text Solve = codes "solve"
word_text True = codes "true"
word_text Var = codes "var"

-- how a mark is written
abbrev pub mark_text : Mark → List ℕ
mark_text ColonColon = codes "::"
mark_text DotDot = codes ".."
mark_text Colon = codes ":"
mark_text Semicolon = codes ";"
mark_text Comma = codes ","
mark_text Equals = codes "="
mark_text OpenParen = codes "("
mark_text CloseParen = codes ")"
mark_text OpenBracket = codes "["
mark_text CloseBracket = codes "]"
mark_text OpenBrace = codes "{"
mark_text CloseBrace = codes "}"

-- a letter or `_`, then letters, digits and `_`
pub record IsIdentifier (text : List ℕ) (i j : ℕ) : Type 0 where
  pub first : is_letter (slice_index text i) ≡ true
  pub some : i < j
  pub run : IsRun is_name_byte text i j

-- some keyword
abbrev pub IsKeyword : List ℕ → ℕ → ℕ → Type 0
IsKeyword text i j = (w : Word) × IsHere (word_text w) text i j
