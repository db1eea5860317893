-- The pieces of each form of line are tokens.
use Rattle.std.proofs.Common.{◌≡◌, ℕ, zero, suc, ◌+◌, ◌≤◌, ◌^◌, true, List, [], ◌∷◌, ◌++◌, refl, arith}
use Rattle.std.specs.Prelude.{codes, decimal}
use Rattle.fzn_token.specs.declared.token.Word.TheVariants as w
use Rattle.fzn_token.specs.declared.token.Mark.TheVariants as m
use Rattle.dcsp_gen.specs.Lines.{name}
use Rattle.law_subjects.specs.Lines.{ModelLine, Declare, Print, Differ, Above, Below, Table, Solve}
use Rattle.std.specs.List.{AllByRecursion}
use Rattle.law_subjects.specs.Says.{entries_of}
use Rattle.law_subjects.specs.Laws.{HasSmallEntries, HasSmallNumbers}
use Rattle.law_subjects.proofs.Places.{stops}
use Rattle.law_subjects.proofs.Pieces.{Piece, bytes_of, is_skip, IsPiece, ArePieces, ◌&◌}
use Rattle.law_subjects.proofs.Numbers.{ends_number}
use Rattle.law_subjects.proofs.PieceKinds.{number, minus, AreDigits, is_word, is_called, is_number, is_minus, is_mark, is_single, is_double, decimal_digits, decimal_solid}
use Rattle.law_subjects.proofs.VariableNames.{letter_solid, is_letter_name, is_variable_name}
use Rattle.law_subjects.proofs.LinePieces.{list_pieces, array_pieces, sum_pieces, entry_pieces, table_pieces, pieces}

-- the digit 1
one_digits : AreDigits 1 (codes "1")
one_digits = record { all = refl; some = omega arith; value = refl }

-- the entries of rows are small
pub entries_small : (rows : List (ℕ × ℕ)) → AllByRecursion HasSmallEntries rows → AllByRecursion (λ entry. entry ≤ 2 ^ 31) (entries_of rows)
entries_small [] h = tt
entries_small (row ∷ rows) h = let first = h.0.0 in let second = h.0.1 in (omega (arith, first), (omega (arith, second), entries_small rows h.1))

module _ (b : ℕ) (low : 97 ≤ b) (high : b ≤ 122) (after : List ℕ) (solid : stops is_skip after ≡ true) where
  -- the names of the array begin with a letter
  list_solid : (first count : ℕ) → stops is_skip (bytes_of (list_pieces (b ∷ []) first count) ++ after) ≡ true
  list_solid first zero = letter_solid b low high
  list_solid first (suc count) = letter_solid b low high

  -- they are tokens
  list_tokens : (first count : ℕ) → first + count ≤ 2 ^ 31 → ArePieces (list_pieces (b ∷ []) first count) after
  list_tokens first zero small =
      is_variable_name b low high first [] _ (omega arith) refl refl refl
      & is_mark m.CloseBracket 93 [] _ refl refl (λ t. refl) refl refl
      & is_mark m.Semicolon 59 (codes "\n") after refl refl (λ t. refl) refl solid
      & tt
  list_tokens first (suc count) small =
      is_variable_name b low high first [] _ (omega arith) refl refl refl
      & is_mark m.Comma 44 [] _ refl refl (λ t. refl) refl (list_solid (first + 1) count)
      & list_tokens (first + 1) count (omega arith)

  -- the array's line
  array_tokens : (count : ℕ) → suc count ≤ 2 ^ 31 → ArePieces (array_pieces (b ∷ []) (suc count) (list_pieces (b ∷ []) 1 count)) after
  array_tokens count small =
      is_word w.Array (codes " ") _ refl refl refl
      & is_mark m.OpenBracket 91 [] _ refl refl (λ t. refl) refl refl
      & is_number 1 (codes "1") [] _ one_digits (omega arith) refl refl refl
      & is_double m.DotDot 46 [] _ refl refl refl refl (decimal_solid (suc count) _ _ small)
      & is_number (suc count) (decimal (suc count)) [] _ (decimal_digits (suc count) small) small refl refl refl
      & is_mark m.CloseBracket 93 (codes " ") _ refl refl (λ t. refl) refl refl
      & is_word w.Of (codes " ") _ refl refl refl
      & is_word w.Var (codes " ") _ refl refl refl
      & is_word w.Int [] _ refl refl refl
      & is_single m.Colon 58 (codes " ") _ refl refl refl refl refl (letter_solid b low high)
      & is_letter_name b low high (codes " ") _ refl refl refl
      & is_double m.ColonColon 58 (codes " ") _ refl refl refl refl refl
      & is_called (codes "output_array") [] _ refl refl refl refl refl refl
      & is_mark m.OpenParen 40 [] _ refl refl (λ t. refl) refl refl
      & is_mark m.OpenBracket 91 [] _ refl refl (λ t. refl) refl refl
      & is_number 1 (codes "1") [] _ one_digits (omega arith) refl refl refl
      & is_double m.DotDot 46 [] _ refl refl refl refl (decimal_solid (suc count) _ _ small)
      & is_number (suc count) (decimal (suc count)) [] _ (decimal_digits (suc count) small) small refl refl refl
      & is_mark m.CloseBracket 93 [] _ refl refl (λ t. refl) refl refl
      & is_mark m.CloseParen 41 (codes " ") _ refl refl (λ t. refl) refl refl
      & is_mark m.Equals 61 (codes " ") _ refl refl (λ t. refl) refl refl
      & is_mark m.OpenBracket 91 [] _ refl refl (λ t. refl) refl (list_solid 1 count)
      & list_tokens 1 count (omega arith)

  -- a difference
  sum_tokens : (first second : ℕ) → first ≤ 2 ^ 31 → second ≤ 2 ^ 31 → (difference : Piece) → ((rest : List ℕ) → stops is_skip ((difference.bytes ++ rest) ++ after) ≡ true)
      → ((rest : List ℕ) → ends_number rest ≡ true → stops is_skip rest ≡ true → IsPiece difference rest) → ArePieces (sum_pieces (name (b ∷ []) first) (name (b ∷ []) second) difference) after
  sum_tokens first second first_small second_small difference number_solid is_difference =
      is_word w.Constraint (codes " ") _ refl refl refl
      & is_called (codes "int_lin_ne") [] _ refl refl refl refl refl refl
      & is_mark m.OpenParen 40 [] _ refl refl (λ t. refl) refl refl
      & is_mark m.OpenBracket 91 [] _ refl refl (λ t. refl) refl refl
      & is_number 1 (codes "1") [] _ one_digits (omega arith) refl refl refl
      & is_mark m.Comma 44 [] _ refl refl (λ t. refl) refl refl
      & is_minus 1 (codes "1") [] _ one_digits (omega arith) refl refl refl
      & is_mark m.CloseBracket 93 [] _ refl refl (λ t. refl) refl refl
      & is_mark m.Comma 44 [] _ refl refl (λ t. refl) refl refl
      & is_mark m.OpenBracket 91 [] _ refl refl (λ t. refl) refl (letter_solid b low high)
      & is_variable_name b low high first [] _ first_small refl refl refl
      & is_mark m.Comma 44 [] _ refl refl (λ t. refl) refl (letter_solid b low high)
      & is_variable_name b low high second [] _ second_small refl refl refl
      & is_mark m.CloseBracket 93 [] _ refl refl (λ t. refl) refl refl
      & is_mark m.Comma 44 [] _ refl refl (λ t. refl) refl (number_solid _)
      & is_difference _ refl refl
      & is_mark m.CloseParen 41 [] _ refl refl (λ t. refl) refl refl
      & is_mark m.Semicolon 59 (codes "\n") after refl refl (λ t. refl) refl solid
      & tt

  -- what follows an entry ends it
  entries_end : (entries : List ℕ) → ends_number (bytes_of (entry_pieces entries) ++ after) ≡ true
  entries_end [] = refl
  entries_end (entry ∷ entries) = refl

  entries_solid : (entries : List ℕ) → stops is_skip (bytes_of (entry_pieces entries) ++ after) ≡ true
  entries_solid [] = refl
  entries_solid (entry ∷ entries) = refl

  -- entries behind a comma each
  entry_tokens : (entries : List ℕ) → AllByRecursion (λ entry. entry ≤ 2 ^ 31) entries → ArePieces (entry_pieces entries) after
  entry_tokens [] small =
      is_mark m.CloseBracket 93 [] _ refl refl (λ t. refl) refl refl
      & is_mark m.CloseParen 41 [] _ refl refl (λ t. refl) refl refl
      & is_mark m.Semicolon 59 (codes "\n") after refl refl (λ t. refl) refl solid
      & tt
  entry_tokens (entry ∷ entries) small =
      is_mark m.Comma 44 [] _ refl refl (λ t. refl) refl (decimal_solid entry _ _ small.0)
      & is_number entry (decimal entry) [] _ (decimal_digits entry small.0) small.0 (entries_end entries) refl (entries_solid entries)
      & entry_tokens entries small.1

  pub table_solid : (entries : List ℕ) → AllByRecursion (λ entry. entry ≤ 2 ^ 31) entries → stops is_skip (bytes_of (table_pieces entries) ++ after) ≡ true
  table_solid [] small = refl
  table_solid (entry ∷ entries) small = decimal_solid entry _ _ small.0

  pub table_tokens : (entries : List ℕ) → AllByRecursion (λ entry. entry ≤ 2 ^ 31) entries → ArePieces (table_pieces entries) after
  table_tokens [] small = entry_tokens [] small
  table_tokens (entry ∷ entries) small =
      is_number entry (decimal entry) [] _ (decimal_digits entry small.0) small.0 (entries_end entries) refl (entries_solid entries)
      & entry_tokens entries small.1

  -- a line
  pub line_tokens : (line : ModelLine) → HasSmallNumbers line → ArePieces (pieces (b ∷ []) line) after
  line_tokens (Declare least top at) small =
      is_word w.Var (codes " ") _ refl refl (decimal_solid least _ _ small.0)
      & is_number least (decimal least) [] _ (decimal_digits least small.0) small.0 refl refl refl
      & is_double m.DotDot 46 [] _ refl refl refl refl (decimal_solid top _ _ small.1)
      & is_number top (decimal top) [] _ (decimal_digits top small.1) small.1 refl refl refl
      & is_single m.Colon 58 (codes " ") _ refl refl refl refl refl (letter_solid b low high)
      & is_variable_name b low high at [] _ small.2.1 refl refl refl
      & is_mark m.Semicolon 59 (codes "\n") after refl refl (λ t. refl) refl solid
      & tt
  line_tokens (Print zero) small = tt
  line_tokens (Print (suc count)) small = array_tokens count small.1
  line_tokens (Differ first second) small =
      is_word w.Constraint (codes " ") _ refl refl refl
      & is_called (codes "int_ne") [] _ refl refl refl refl refl refl
      & is_mark m.OpenParen 40 [] _ refl refl (λ t. refl) refl (letter_solid b low high)
      & is_variable_name b low high first [] _ small.0.1 refl refl refl
      & is_mark m.Comma 44 [] _ refl refl (λ t. refl) refl (letter_solid b low high)
      & is_variable_name b low high second [] _ small.1.1 refl refl refl
      & is_mark m.CloseParen 41 [] _ refl refl (λ t. refl) refl refl
      & is_mark m.Semicolon 59 (codes "\n") after refl refl (λ t. refl) refl solid
      & tt
  line_tokens (Above first second distance) small =
      sum_tokens first second small.0.1 small.1.1 (number distance (decimal distance) []) (λ rest. decimal_solid distance _ _ small.2.1)
      (λ rest ends solid. is_number distance (decimal distance) [] rest (decimal_digits distance small.2.1) small.2.1 ends refl solid)
  line_tokens (Below first second distance) small =
      sum_tokens first second small.0.1 small.1.1 (minus distance (decimal distance) []) (λ rest. refl)
      (λ rest ends solid. is_minus distance (decimal distance) [] rest (decimal_digits distance small.2.1) small.2.1 ends refl solid)
  line_tokens (Table first second rows) small =
      is_word w.Constraint (codes " ") _ refl refl refl
      & is_called (codes "fzn_table_int") [] _ refl refl refl refl refl refl
      & is_mark m.OpenParen 40 [] _ refl refl (λ t. refl) refl refl
      & is_mark m.OpenBracket 91 [] _ refl refl (λ t. refl) refl (letter_solid b low high)
      & is_variable_name b low high first [] _ small.0.1 refl refl refl
      & is_mark m.Comma 44 [] _ refl refl (λ t. refl) refl (letter_solid b low high)
      & is_variable_name b low high second [] _ small.1.1 refl refl refl
      & is_mark m.CloseBracket 93 [] _ refl refl (λ t. refl) refl refl
      & is_mark m.Comma 44 [] _ refl refl (λ t. refl) refl refl
      & is_mark m.OpenBracket 91 [] _ refl refl (λ t. refl) refl (table_solid (entries_of rows) (entries_small rows small.2))
      & table_tokens (entries_of rows) (entries_small rows small.2)
  line_tokens Solve small =
      is_word w.Solve (codes " ") _ refl refl refl
      & is_word w.Satisfy [] _ refl refl refl
      & is_mark m.Semicolon 59 (codes "\n") after refl refl (λ t. refl) refl solid
      & tt
