-- The generated problems, whole. Words are any numbers, one after another.
use Rattle.std.specs.Prelude.{ℕ, ◌+◌, ◌-◌, ◌%◌, ◌==◌, List, [], ◌∷◌, ◌++◌, map, flat_map, codes, if◌then◌else◌}
use Rattle.std.specs.List.{range_with_len}
use Rattle.dcsp_gen.specs.Lines.{variable_lines, array_line, differ_line, diagonal_lines, solve_line}
use Rattle.dcsp_gen.specs.Words.{with_words}

-- a number with each that is above it, up to count
abbrev pub pairs_of : ℕ → ℕ → List (ℕ × ℕ)
pairs_of count first = map (λ second. (first, second)) (range_with_len (first + 1) (count - first))

-- the pairs of the numbers 1 to count, the lesser first, in rising order
abbrev pub pairs : ℕ → List (ℕ × ℕ)
pairs count = flat_map (pairs_of count) (range_with_len 1 count)

-- two queens stand in different rows and on different diagonals
abbrev pub queen_lines : ℕ × ℕ → List ℕ
queen_lines (first, second) = differ_line (codes "q") first second ++ diagonal_lines (codes "q") first second

-- n queens on a board of n rows and columns, none of which attacks another
abbrev pub queens_text : ℕ → List ℕ
queens_text n = variable_lines (codes "q") n n ++ array_line (codes "q") n ++ flat_map queen_lines (pairs n) ++ solve_line

-- a pair is an edge where its word is divisible by 4
abbrev pub edge_line : ℕ → ℕ × ℕ → List ℕ
edge_line word (first, second) = if word % 4 == 0 then differ_line (codes "c") first second else []

-- n nodes with one of k colours each, some pairs of which differ
abbrev pub colouring_text : ℕ → ℕ → (ℕ → ℕ) → List ℕ
colouring_text n k words =
    variable_lines (codes "c") k n ++ array_line (codes "c") n ++ with_words edge_line words (pairs n) ++ solve_line

-- a node differs from an earlier one that its word names
abbrev pub neighbour_line : ℕ → ℕ → List ℕ
neighbour_line word node = differ_line (codes "c") (1 + word % (node - 1)) node

-- a node, three times
abbrev pub thrice : ℕ → List ℕ
thrice node = node ∷ node ∷ node ∷ []

-- n nodes with one of four colours each, each with three earlier neighbours, some of which may be one
abbrev pub sparse_text : ℕ → (ℕ → ℕ) → List ℕ
sparse_text n words =
    variable_lines (codes "c") 4 n ++ array_line (codes "c") n ++ with_words neighbour_line words (flat_map thrice (range_with_len 2 (n - 1))) ++ solve_line

-- two pigeons sit in different holes
abbrev pub apart_line : ℕ × ℕ → List ℕ
apart_line (first, second) = differ_line (codes "p") first second

-- n pigeons in n - 1 holes
abbrev pub pigeons_text : ℕ → List ℕ
pigeons_text n = variable_lines (codes "p") (n - 1) n ++ flat_map apart_line (pairs n) ++ solve_line
