-- Generated problems as lists of lines. A letter and a number from 1 name a variable.
use Rattle.std.specs.Prelude.{ℕ, ◌+◌, ◌-◌, ◌%◌, ◌==◌, suc, true, false, List, [], ◌∷◌, ◌++◌, map, flat_map, length, codes, decimal, if◌then◌else◌}
use Rattle.std.specs.List.{range_with_len}
use Rattle.std.specs.List.{concat}
use Rattle.dcsp_gen.specs.Lines.{array_line, differ_line, differ_not_by_line, solve_line}
use Rattle.dcsp_gen.specs.Binary.{entries, value_pairs}
use Rattle.dcsp_gen.specs.Problems.{pairs, thrice}
use Rattle.dcsp_gen.specs.Selection.{selected, words_after}

-- a line of a generated problem
pub data ModelLine : Type 0 where
  -- a variable has the values from low to high
  Declare : (low high number : ℕ) → ModelLine
  -- the array of the variables 1 to count, which a solution prints
  Print : (count : ℕ) → ModelLine
  -- two variables have different values
  Differ : (first second : ℕ) → ModelLine
  -- the first value less the second is not the distance
  Above : (first second distance : ℕ) → ModelLine
  -- the first value less the second is not the distance's negation
  Below : (first second distance : ℕ) → ModelLine
  -- the values of two variables are a row of these
  Table : (first second : ℕ) (rows : List (ℕ × ℕ)) → ModelLine
  -- any solution is asked for
  Solve : ModelLine

-- var LOW..HIGH: NAME;
abbrev pub declare_line : List ℕ → ℕ → ℕ → ℕ → List ℕ
declare_line letter low high number = concat (codes "var " ∷ decimal low ∷ codes ".." ∷ decimal high ∷ codes ": " ∷ letter ∷ decimal number ∷ codes ";\n" ∷ [])

-- constraint fzn_table_int([NAME,NAME],[ENTRIES]);
abbrev pub rows_line : List ℕ → ℕ → ℕ → List (ℕ × ℕ) → List ℕ
rows_line letter first second rows = concat (
    codes "constraint fzn_table_int([" ∷ letter ∷ decimal first ∷ codes "," ∷ letter ∷ decimal second ∷ codes "],[" ∷ entries rows ∷ codes "]);\n" ∷ [])

-- a line as text
abbrev pub line_text : List ℕ → ModelLine → List ℕ
line_text letter (Declare low high number) = declare_line letter low high number
line_text letter (Print count) = array_line letter count
line_text letter (Differ first second) = differ_line letter first second
line_text letter (Above first second distance) = differ_not_by_line letter first second (decimal distance)
line_text letter (Below first second distance) = differ_not_by_line letter first second (codes "-" ++ decimal distance)
line_text letter (Table first second rows) = rows_line letter first second rows
line_text letter Solve = solve_line

-- one variable for each number from 1 to count
abbrev pub variables : ℕ → ℕ → ℕ → List ModelLine
variables low high count = map (Declare low high) (range_with_len 1 count)

-- two queens stand in different rows and on different diagonals
abbrev pub queens_apart : ℕ × ℕ → List ModelLine
queens_apart (first, second) = Differ first second ∷ Above first second (second - first) ∷ Below first second (second - first) ∷ []

abbrev pub queens : ℕ → List ModelLine
queens n = variables 1 n n ++ Print n ∷ flat_map queens_apart (pairs n) ++ Solve ∷ []

-- the lines of items in order, each with a word of its own
abbrev pub lines_with_words : {X : Type 0} → (ℕ → X → List ModelLine) → (ℕ → ℕ) → List X → List ModelLine
lines_with_words make words [] = []
lines_with_words make words (x ∷ xs) = make (words 0) x ++ lines_with_words make (λ k. words (suc k)) xs

-- a pair is an edge where its word is divisible by 4
abbrev pub edge : ℕ → ℕ × ℕ → List ModelLine
edge word (first, second) = if word % 4 == 0 then Differ first second ∷ [] else []

abbrev pub colouring : ℕ → ℕ → (ℕ → ℕ) → List ModelLine
colouring n k words = variables 1 k n ++ Print n ∷ lines_with_words edge words (pairs n) ++ Solve ∷ []

-- a node differs from an earlier one that its word names
abbrev pub neighbour : ℕ → ℕ → List ModelLine
neighbour word node = Differ (1 + word % (node - 1)) node ∷ []

abbrev pub sparse : ℕ → (ℕ → ℕ) → List ModelLine
sparse n words = variables 1 4 n ++ Print n ∷ lines_with_words neighbour words (flat_map thrice (range_with_len 2 (n - 1))) ++ Solve ∷ []

-- two pigeons sit in different holes
abbrev pub pigeons_apart : ℕ × ℕ → List ModelLine
pigeons_apart (first, second) = Differ first second ∷ []

abbrev pub pigeons : ℕ → List ModelLine
pigeons n = variables 1 (n - 1) n ++ flat_map pigeons_apart (pairs n) ++ Solve ∷ []

-- for each pair of variables the pairs of values that its words do not choose, so many of them being forbidden
abbrev pub tables : ℕ → List (ℕ × ℕ) → (ℕ → ℕ) → List (ℕ × ℕ) → List ModelLine
tables forbidden values words [] = []
tables forbidden values words (edge ∷ edges) =
    Table edge.0 edge.1 (selected false words forbidden values) ∷ tables forbidden values (words_after (length values) words) edges

-- the tables of a random binary problem: of so many pairs of n variables, with so many forbidden pairs of d values
abbrev pub binary_tables : ℕ → ℕ → ℕ → ℕ → (ℕ → ℕ) → List ModelLine
binary_tables n d edges forbidden words = tables forbidden (value_pairs d) (words_after (length (pairs n)) words) (selected true words edges (pairs n))

abbrev pub binary : ℕ → ℕ → ℕ → ℕ → (ℕ → ℕ) → List ModelLine
binary n d edges forbidden words = variables 0 (d - 1) n ++ Print n ∷ binary_tables n d edges forbidden words ++ Solve ∷ []
