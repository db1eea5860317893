-- Lines with names of their own as pieces, which are tokens.
use Rattle.std.proofs.Common.{◌≡◌, ℕ, ◌≤◌, ◌^◌, true, false, not, List, [], ◌∷◌, ◌++◌, flat_map, refl, ap, ◌∙◌, append_assoc, arith}
use Rattle.std.specs.Prelude.{codes, decimal}
use Rattle.std.specs.List.{list_all, AllByRecursion}
use Rattle.std.proofs.lemmas.Bool.Decides.{nat_tests}
use Rattle.fzn_token.specs.Bytes.{is_blank, is_letter, is_name_byte}
use Rattle.fzn_token.specs.declared.token.Word.TheVariants as w
use Rattle.fzn_token.specs.declared.token.Mark.TheVariants as m
use Rattle.dcsp_gen.specs.Lists.{later_number, listed}
use Rattle.law_subjects.specs.Says.{entries_of}
use Rattle.law_subjects.specs.Named.{Equal, Less, Different, comparison_name, NamedLine, Choose, Compare, Allow, Finish, named_text, IsName, IsWellNamed}
use Rattle.law_subjects.proofs.Places.{stops}
use Rattle.law_subjects.proofs.Pieces.{Piece, bytes_of, is_skip, IsPiece, ArePieces, ◌&◌}
use Rattle.law_subjects.proofs.Numbers.{ends_number}
use Rattle.law_subjects.proofs.PieceKinds.{word, mark, called, number, is_word, is_called, is_number, is_mark, is_single, is_double, decimal_digits, decimal_solid}
use Rattle.law_subjects.proofs.LinePieces.{table_pieces, rows_pieces, table_bytes}
use Rattle.law_subjects.proofs.LineTokens.{entries_small, table_solid, table_tokens}

-- what follows the numbers of a set
abbrev pub name_pieces : List ℕ → List Piece
name_pieces name =
    mark m.CloseBrace [] ∷ mark m.Colon (codes " ") ∷ called name (codes " ") ∷ mark m.ColonColon (codes " ") ∷ called (codes "output_var") [] ∷ mark m.Semicolon (codes "\n") ∷ []

-- numbers behind a comma each, and the rest of the line
abbrev pub later_pieces : List ℕ → List ℕ → List Piece
later_pieces [] name = name_pieces name
later_pieces (value ∷ values) name = mark m.Comma [] ∷ number value (decimal value) [] ∷ later_pieces values name

-- numbers with a comma between two, and the rest of the line
abbrev pub set_pieces : List ℕ → List ℕ → List Piece
set_pieces [] name = name_pieces name
set_pieces (value ∷ values) name = number value (decimal value) [] ∷ later_pieces values name

-- two values that are compared
abbrev pub compare_pieces : List ℕ → List ℕ → List ℕ → List Piece
compare_pieces comparison first second =
    word w.Constraint (codes " ") ∷ called comparison [] ∷ mark m.OpenParen [] ∷ called first [] ∷ mark m.Comma [] ∷ called second [] ∷ mark m.CloseParen [] ∷ mark m.Semicolon (codes "\n") ∷ []

-- a line
abbrev pub named_pieces : NamedLine → List Piece
named_pieces (Choose values name) = word w.Var (codes " ") ∷ mark m.OpenBrace [] ∷ set_pieces values name
named_pieces (Compare comparison first second) = compare_pieces (comparison_name comparison) first second
named_pieces (Allow first second rows) = rows_pieces first second (table_pieces (entries_of rows))
named_pieces Finish = word w.Solve (codes " ") ∷ word w.Satisfy [] ∷ mark m.Semicolon (codes "\n") ∷ []

-- ---- the bytes of the pieces

-- what follows a set's numbers, as text
abbrev set_end : List ℕ → List ℕ
set_end name = codes "}: " ++ (name ++ codes " :: output_var;\n")

-- the numbers behind the first
later_bytes : (values name : List ℕ) → flat_map later_number values ++ set_end name ≡ bytes_of (later_pieces values name)
later_bytes [] name = refl
later_bytes (value ∷ values) name =
    append_assoc (later_number value) (flat_map later_number values) (set_end name) ∙ ap (λ t. later_number value ++ t) (later_bytes values name)

-- the numbers
set_bytes : (values name : List ℕ) → listed values ++ set_end name ≡ bytes_of (set_pieces values name)
set_bytes [] name = refl
set_bytes (value ∷ values) name =
    append_assoc (decimal value) (flat_map later_number values) (set_end name) ∙ ap (λ t. decimal value ++ t) (later_bytes values name)

-- the line of a variable, with its set and what follows
choose_front : (values name : List ℕ) → named_text (Choose values name) ≡ codes "var {" ++ (listed values ++ set_end name)
choose_front values name =
    append_assoc (codes "var {" ++ listed values) (codes "}") (codes ": " ++ (name ++ codes " :: output_var;\n"))
    ∙ append_assoc (codes "var {") (listed values) (set_end name)

-- a line is its pieces
pub named_bytes : (line : NamedLine) → named_text line ≡ bytes_of (named_pieces line)
named_bytes (Choose values name) = choose_front values name ∙ ap (λ t. codes "var {" ++ t) (set_bytes values name)
named_bytes (Compare comparison first second) = refl
named_bytes (Allow first second rows) = rw (table_bytes rows) refl
named_bytes Finish = refl

-- ---- the tokens that they are

-- a letter is not skipped
letter_no_skip : (b : ℕ) → is_letter b ≡ true → is_skip b ≡ false
letter_no_skip b e = grind (arith, nat_tests)

-- a letter is a byte of names
letter_of_name : (b : ℕ) → is_letter b ≡ true → is_name_byte b ≡ true
letter_of_name b e = grind (arith, nat_tests)

-- no text that begins with a name is skipped
pub name_solid : (name more after : List ℕ) → IsName name → stops is_skip ((name ++ more) ++ after) ≡ true
name_solid [] more after is = absurd is
name_solid (b ∷ bs) more after is = ap not (letter_no_skip b is.0)

-- a name is a token
pub is_named : (name gap rest : List ℕ) → IsName name → stops is_name_byte (gap ++ rest) ≡ true → list_all is_blank gap ≡ true → stops is_skip rest ≡ true → IsPiece (called name gap) rest
is_named [] gap rest is stop blank solid = absurd is
is_named (b ∷ bs) gap rest is stop blank solid =
    let first = letter_of_name b is.0 in
    let later = is.1 in
    is_called (b ∷ bs) gap rest is.0 (rw (first, later) refl) is.2 stop blank solid

module _ (after : List ℕ) (solid : stops is_skip after ≡ true) where
  -- the rest of a declaration
  name_tokens : (name : List ℕ) → IsName name → ArePieces (name_pieces name) after
  name_tokens name is =
      is_mark m.CloseBrace 125 [] _ refl refl (λ t. refl) refl refl
      & is_single m.Colon 58 (codes " ") _ refl refl refl refl refl (name_solid name _ _ is)
      & is_named name (codes " ") _ is refl refl refl
      & is_double m.ColonColon 58 (codes " ") _ refl refl refl refl refl
      & is_called (codes "output_var") [] _ refl refl refl refl refl refl
      & is_mark m.Semicolon 59 (codes "\n") after refl refl (λ t. refl) refl solid
      & tt

  -- what follows a number ends it
  later_end : (values name : List ℕ) → ends_number (bytes_of (later_pieces values name) ++ after) ≡ true
  later_end [] name = refl
  later_end (value ∷ values) name = refl

  -- nor is it skipped
  later_solid : (values name : List ℕ) → stops is_skip (bytes_of (later_pieces values name) ++ after) ≡ true
  later_solid [] name = refl
  later_solid (value ∷ values) name = refl

  -- numbers behind a comma each
  later_tokens : (values name : List ℕ) → AllByRecursion (λ value. value ≤ 2 ^ 31) values → IsName name → ArePieces (later_pieces values name) after
  later_tokens [] name small is = name_tokens name is
  later_tokens (value ∷ values) name small is =
      is_mark m.Comma 44 [] _ refl refl (λ t. refl) refl (decimal_solid value _ _ small.0)
      & is_number value (decimal value) [] _ (decimal_digits value small.0) small.0 (later_end values name) refl (later_solid values name)
      & later_tokens values name small.1 is

  -- a set's numbers are not skipped
  set_solid : (values name : List ℕ) → AllByRecursion (λ value. value ≤ 2 ^ 31) values → stops is_skip (bytes_of (set_pieces values name) ++ after) ≡ true
  set_solid [] name small = refl
  set_solid (value ∷ values) name small = decimal_solid value _ _ small.0

  -- numbers with a comma between two
  set_tokens : (values name : List ℕ) → AllByRecursion (λ value. value ≤ 2 ^ 31) values → IsName name → ArePieces (set_pieces values name) after
  set_tokens [] name small is = name_tokens name is
  set_tokens (value ∷ values) name small is =
      is_number value (decimal value) [] _ (decimal_digits value small.0) small.0 (later_end values name) refl (later_solid values name)
      & later_tokens values name small.1 is

  -- two names that are compared
  compare_tokens : (comparison first second : List ℕ) → ((rest : List ℕ) → IsPiece (called comparison []) (40 ∷ rest)) → stops is_skip ((comparison ++ bytes_of (mark m.OpenParen [] ∷ called first [] ∷ mark m.Comma [] ∷ called second [] ∷ mark m.CloseParen [] ∷ mark m.Semicolon (codes "\n") ∷ [])) ++ after) ≡ true
      → IsName first → IsName second → ArePieces (compare_pieces comparison first second) after
  compare_tokens comparison first second piece begins is also =
      is_word w.Constraint (codes " ") _ refl refl begins
      & piece _
      & is_mark m.OpenParen 40 [] _ refl refl (λ t. refl) refl (name_solid first _ _ is)
      & is_named first [] _ is refl refl refl
      & is_mark m.Comma 44 [] _ refl refl (λ t. refl) refl (name_solid second _ _ also)
      & is_named second [] _ also refl refl refl
      & is_mark m.CloseParen 41 [] _ refl refl (λ t. refl) refl refl
      & is_mark m.Semicolon 59 (codes "\n") after refl refl (λ t. refl) refl solid
      & tt

  -- a line
  pub named_tokens : (line : NamedLine) → IsWellNamed line → ArePieces (named_pieces line) after
  named_tokens (Choose values name) is =
      is_word w.Var (codes " ") _ refl refl refl
      & is_mark m.OpenBrace 123 [] _ refl refl (λ t. refl) refl (set_solid values name is.0)
      & set_tokens values name is.0 is.1
  named_tokens (Compare Equal first second) is = compare_tokens (codes "int_eq") first second (λ rest. is_called (codes "int_eq") [] (40 ∷ rest) refl refl refl refl refl refl) refl is.0 is.1
  named_tokens (Compare Less first second) is = compare_tokens (codes "int_lt") first second (λ rest. is_called (codes "int_lt") [] (40 ∷ rest) refl refl refl refl refl refl) refl is.0 is.1
  named_tokens (Compare Different first second) is = compare_tokens (codes "int_ne") first second (λ rest. is_called (codes "int_ne") [] (40 ∷ rest) refl refl refl refl refl refl) refl is.0 is.1
  named_tokens (Allow first second rows) is =
      is_word w.Constraint (codes " ") _ refl refl refl
      & is_called (codes "fzn_table_int") [] _ refl refl refl refl refl refl
      & is_mark m.OpenParen 40 [] _ refl refl (λ t. refl) refl refl
      & is_mark m.OpenBracket 91 [] _ refl refl (λ t. refl) refl (name_solid first _ _ is.0)
      & is_named first [] _ is.0 refl refl refl
      & is_mark m.Comma 44 [] _ refl refl (λ t. refl) refl (name_solid second _ _ is.1)
      & is_named second [] _ is.1 refl refl refl
      & is_mark m.CloseBracket 93 [] _ refl refl (λ t. refl) refl refl
      & is_mark m.Comma 44 [] _ refl refl (λ t. refl) refl refl
      & is_mark m.OpenBracket 91 [] _ refl refl (λ t. refl) refl (table_solid 97 (omega arith) (omega arith) after solid (entries_of rows) (entries_small rows is.2))
      & table_tokens 97 (omega arith) (omega arith) after solid (entries_of rows) (entries_small rows is.2)
  named_tokens Finish is =
      is_word w.Solve (codes " ") _ refl refl refl
      & is_word w.Satisfy [] _ refl refl refl
      & is_mark m.Semicolon 59 (codes "\n") after refl refl (λ t. refl) refl solid
      & tt
