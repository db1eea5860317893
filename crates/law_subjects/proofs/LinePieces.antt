-- Each form of line as pieces.
use Rattle.std.proofs.Common.{◌≡◌, ℕ, zero, suc, ◌+◌, List, [], ◌∷◌, ◌++◌, map, flat_map, refl, ap, ◌∙◌, append_assoc}
use Rattle.std.specs.Prelude.{codes, decimal}
use Rattle.std.specs.List.{range_with_len, join_with_byte}
use Rattle.fzn_token.specs.declared.token.Word.TheVariants as w
use Rattle.fzn_token.specs.declared.token.Mark.TheVariants as m
use Rattle.dcsp_gen.specs.Lines.{name, names}
use Rattle.dcsp_gen.specs.Binary.{entries, entry, later_entry}
use Rattle.law_subjects.specs.Lines.{ModelLine, Declare, Print, Differ, Above, Below, Table, Solve, line_text}
use Rattle.law_subjects.specs.Says.{entries_of}
use Rattle.law_subjects.proofs.Pieces.{Piece, bytes_of}
use Rattle.law_subjects.proofs.PieceKinds.{word, mark, called, number, minus}

-- the names of the variables first and count more, a comma between two, and the end of the line
abbrev pub list_pieces : List ℕ → ℕ → ℕ → List Piece
list_pieces letter first zero = called (name letter first) [] ∷ mark m.CloseBracket [] ∷ mark m.Semicolon (codes "\n") ∷ []
list_pieces letter first (suc count) = called (name letter first) [] ∷ mark m.Comma [] ∷ list_pieces letter (first + 1) count

-- the array of the variables 1 to count
abbrev pub array_pieces : List ℕ → ℕ → List Piece → List Piece
array_pieces letter count names =
    word w.Array (codes " ") ∷ mark m.OpenBracket [] ∷ number 1 (codes "1") [] ∷ mark m.DotDot [] ∷ number count (decimal count) [] ∷ mark m.CloseBracket (codes " ")
    ∷ word w.Of (codes " ") ∷ word w.Var (codes " ") ∷ word w.Int [] ∷ mark m.Colon (codes " ") ∷ called letter (codes " ")
    ∷ mark m.ColonColon (codes " ") ∷ called (codes "output_array") [] ∷ mark m.OpenParen [] ∷ mark m.OpenBracket [] ∷ number 1 (codes "1") [] ∷ mark m.DotDot [] ∷ number count (decimal count) []
    ∷ mark m.CloseBracket [] ∷ mark m.CloseParen (codes " ") ∷ mark m.Equals (codes " ") ∷ mark m.OpenBracket [] ∷ names

-- two different values
abbrev pub differ_pieces : List ℕ → List ℕ → List Piece
differ_pieces first second =
    word w.Constraint (codes " ") ∷ called (codes "int_ne") [] ∷ mark m.OpenParen [] ∷ called first [] ∷ mark m.Comma [] ∷ called second [] ∷ mark m.CloseParen [] ∷ mark m.Semicolon (codes "\n") ∷ []

-- a difference that is not this number
abbrev pub sum_pieces : List ℕ → List ℕ → Piece → List Piece
sum_pieces first second difference =
    word w.Constraint (codes " ") ∷ called (codes "int_lin_ne") [] ∷ mark m.OpenParen []
    ∷ mark m.OpenBracket [] ∷ number 1 (codes "1") [] ∷ mark m.Comma [] ∷ minus 1 (codes "1") [] ∷ mark m.CloseBracket [] ∷ mark m.Comma []
    ∷ mark m.OpenBracket [] ∷ called first [] ∷ mark m.Comma [] ∷ called second [] ∷ mark m.CloseBracket [] ∷ mark m.Comma []
    ∷ difference ∷ mark m.CloseParen [] ∷ mark m.Semicolon (codes "\n") ∷ []

-- entries behind a comma each, and the end of the line
abbrev pub entry_pieces : List ℕ → List Piece
entry_pieces [] = mark m.CloseBracket [] ∷ mark m.CloseParen [] ∷ mark m.Semicolon (codes "\n") ∷ []
entry_pieces (entry ∷ entries) = mark m.Comma [] ∷ number entry (decimal entry) [] ∷ entry_pieces entries

-- entries with a comma between two, and the end of the line
abbrev pub table_pieces : List ℕ → List Piece
table_pieces [] = entry_pieces []
table_pieces (entry ∷ entries) = number entry (decimal entry) [] ∷ entry_pieces entries

-- two values that are a row
abbrev pub rows_pieces : List ℕ → List ℕ → List Piece → List Piece
rows_pieces first second table =
    word w.Constraint (codes " ") ∷ called (codes "fzn_table_int") [] ∷ mark m.OpenParen []
    ∷ mark m.OpenBracket [] ∷ called first [] ∷ mark m.Comma [] ∷ called second [] ∷ mark m.CloseBracket [] ∷ mark m.Comma []
    ∷ mark m.OpenBracket [] ∷ table

-- a line; an array of no variables is not written
abbrev pub pieces : List ℕ → ModelLine → List Piece
pieces letter (Declare low high at) =
    word w.Var (codes " ") ∷ number low (decimal low) [] ∷ mark m.DotDot [] ∷ number high (decimal high) [] ∷ mark m.Colon (codes " ") ∷ called (name letter at) [] ∷ mark m.Semicolon (codes "\n") ∷ []
pieces letter (Print zero) = []
pieces letter (Print (suc count)) = array_pieces letter (suc count) (list_pieces letter 1 count)
pieces letter (Differ first second) = differ_pieces (name letter first) (name letter second)
pieces letter (Above first second distance) = sum_pieces (name letter first) (name letter second) (number distance (decimal distance) [])
pieces letter (Below first second distance) = sum_pieces (name letter first) (name letter second) (minus distance (decimal distance) [])
pieces letter (Table first second rows) = rows_pieces (name letter first) (name letter second) (table_pieces (entries_of rows))
pieces letter Solve = word w.Solve (codes " ") ∷ word w.Satisfy [] ∷ mark m.Semicolon (codes "\n") ∷ []

-- the names of the array
list_bytes : (b first count : ℕ) → join_with_byte 44 (map (name (b ∷ [])) (range_with_len first (suc count))) ++ codes "];\n" ≡ bytes_of (list_pieces (b ∷ []) first count)
list_bytes b first zero = refl
list_bytes b first (suc count) =
    let later = map (name (b ∷ [])) (range_with_len (first + 1) (suc count)) in
    append_assoc (b ∷ decimal first) (44 ∷ join_with_byte 44 later) (codes "];\n") ∙ ap (λ t. (b ∷ decimal first) ++ (44 ∷ t)) (list_bytes b (first + 1) count)

-- a row in front of what follows
row_front : (first second : ℕ) (rest : List ℕ) → (decimal first ++ (44 ∷ (decimal second ++ []))) ++ rest ≡ decimal first ++ (44 ∷ (decimal second ++ rest))
row_front first second rest = append_assoc (decimal first) (44 ∷ (decimal second ++ [])) rest ∙ ap (λ t. decimal first ++ (44 ∷ t)) (append_assoc (decimal second) [] rest)

-- the rows behind the first
later_bytes : (rows : List (ℕ × ℕ)) → flat_map later_entry rows ++ codes "]);\n" ≡ bytes_of (entry_pieces (entries_of rows))
later_bytes [] = refl
later_bytes ((first, second) ∷ rows) =
    append_assoc (later_entry (first, second)) (flat_map later_entry rows) (codes "]);\n")
    ∙ ap (λ t. later_entry (first, second) ++ t) (later_bytes rows)
    ∙ ap (λ t. 44 ∷ t) (row_front first second (bytes_of (entry_pieces (entries_of rows))))

-- the rows
pub table_bytes : (rows : List (ℕ × ℕ)) → entries rows ++ codes "]);\n" ≡ bytes_of (table_pieces (entries_of rows))
table_bytes [] = refl
table_bytes ((first, second) ∷ rows) =
    append_assoc (entry (first, second)) (flat_map later_entry rows) (codes "]);\n")
    ∙ ap (λ t. entry (first, second) ++ t) (later_bytes rows)
    ∙ row_front first second (bytes_of (entry_pieces (entries_of rows)))

-- a line that is not an empty array is its pieces
pub line_bytes : (b : ℕ) (line : ModelLine) → (line ≡ Print 0 → ⊥) → line_text (b ∷ []) line ≡ bytes_of (pieces (b ∷ []) line)
line_bytes b (Declare low high at) some = refl
line_bytes b (Print zero) some = absurd (some refl)
line_bytes b (Print (suc count)) some = rw (list_bytes b 1 count) refl
line_bytes b (Differ first second) some = refl
line_bytes b (Above first second distance) some = refl
line_bytes b (Below first second distance) some = refl
line_bytes b (Table first second rows) some = rw (table_bytes rows) refl
line_bytes b Solve some = refl
