-- Random binary problems: so many pairs of variables have a constraint, and each forbids so many pairs of values.
use Rattle.std.specs.Prelude.{ℕ, ◌+◌, ◌-◌, ◌*◌, Bool, true, false, ◌&&◌, nat_le, List, [], ◌∷◌, ◌++◌, map, flat_map, codes, decimal, length}
use Rattle.std.specs.List.{concat, range_with_len}
use Rattle.dcsp_gen.specs.Lines.{array_line, solve_line}
use Rattle.dcsp_gen.specs.Problems.{pairs}
use Rattle.dcsp_gen.specs.Selection.{words_after, selected}

-- var 0..HIGH: xNUMBER;
abbrev pub value_line : ℕ → ℕ → List ℕ
value_line high number = concat (codes "var 0.." ∷ decimal high ∷ codes ": x" ∷ decimal number ∷ codes ";\n" ∷ [])

-- one such line for each of the variables 1 to count
abbrev pub value_lines : ℕ → ℕ → List ℕ
value_lines high count = flat_map (value_line high) (range_with_len 1 count)

-- a value with each value below count
abbrev pub values_with : ℕ → ℕ → List (ℕ × ℕ)
values_with count first = map (λ second. (first, second)) (range_with_len 0 count)

-- the pairs of values below count, in rising order
abbrev pub value_pairs : ℕ → List (ℕ × ℕ)
value_pairs count = flat_map (values_with count) (range_with_len 0 count)

-- FIRST,SECOND
abbrev pub entry : ℕ × ℕ → List ℕ
entry (first, second) = concat (decimal first ∷ codes "," ∷ decimal second ∷ [])

-- the same behind a comma
abbrev pub later_entry : ℕ × ℕ → List ℕ
later_entry pair = codes "," ++ entry pair

-- pairs as the rows of a table
abbrev pub entries : List (ℕ × ℕ) → List ℕ
entries [] = []
entries (pair ∷ pairs) = entry pair ++ flat_map later_entry pairs

-- constraint fzn_table_int([xFIRST,xSECOND],[ENTRIES]);
abbrev pub table_line : ℕ × ℕ → List (ℕ × ℕ) → List ℕ
table_line (first, second) rows = concat (
    codes "constraint fzn_table_int([x" ∷ decimal first ∷ codes ",x" ∷ decimal second ∷ codes "],[" ∷ entries rows ∷ codes "]);\n" ∷ [])

-- for each pair of variables the pairs of values that its words do not choose, so many of them being forbidden
abbrev pub table_lines : ℕ → List (ℕ × ℕ) → (ℕ → ℕ) → List (ℕ × ℕ) → List ℕ
table_lines forbidden values words [] = []
table_lines forbidden values words (edge ∷ edges) =
    table_line edge (selected false words forbidden values) ++ table_lines forbidden values (words_after (length values) words) edges

-- n variables with d values each, so many edges, and so many forbidden pairs of values for each
abbrev pub binary_text : ℕ → ℕ → ℕ → ℕ → (ℕ → ℕ) → List ℕ
binary_text n d edges forbidden words =
    value_lines (d - 1) n ++ array_line (codes "x") n
    ++ table_lines forbidden (value_pairs d) (words_after (length (pairs n)) words) (selected true words edges (pairs n)) ++ solve_line

-- there are as many pairs of variables and of values as are wanted, and all constraints together have at most 1,048,576 terms and entries
abbrev pub sizes_fit : ℕ → ℕ → ℕ → ℕ → Bool
sizes_fit n d edges forbidden =
    nat_le (2 * edges) (n * (n - 1)) && nat_le forbidden (d * d) && nat_le (edges * (2 * (d * d - forbidden) + 2)) 1048576
