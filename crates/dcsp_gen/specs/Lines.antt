-- The lines of generated problems. A letter and a number from 1 name a variable: q1, q2 and so on.
use Rattle.std.specs.Prelude.{ℕ, ◌-◌, List, ◌∷◌, ◌++◌, [], map, flat_map, codes, decimal}
use Rattle.std.specs.List.{concat, range_with_len, join_with_byte}

-- var 1..HIGH: NAME;
abbrev pub variable_line : List ℕ → ℕ → ℕ → List ℕ
variable_line letter high number = concat (codes "var 1.." ∷ decimal high ∷ codes ": " ∷ letter ∷ decimal number ∷ codes ";\n" ∷ [])

-- one such line for each of the variables 1 to count
abbrev pub variable_lines : List ℕ → ℕ → ℕ → List ℕ
variable_lines letter high count = flat_map (variable_line letter high) (range_with_len 1 count)

-- the name of a variable
abbrev pub name : List ℕ → ℕ → List ℕ
name letter number = letter ++ decimal number

-- the names of the variables 1 to count, with a comma between two
abbrev pub names : List ℕ → ℕ → List ℕ
names letter count = join_with_byte 44 (map (name letter) (range_with_len 1 count))

-- array [1..COUNT] of var int: LETTER :: output_array([1..COUNT]) = [NAME,..,NAME];
abbrev pub array_line : List ℕ → ℕ → List ℕ
array_line letter count = concat (
    codes "array [1.." ∷ decimal count ∷ codes "] of var int: " ∷ letter
    ∷ codes " :: output_array([1.." ∷ decimal count ∷ codes "]) = [" ∷ names letter count ∷ codes "];\n" ∷ [])

-- constraint int_ne(NAME,NAME);
abbrev pub differ_line : List ℕ → ℕ → ℕ → List ℕ
differ_line letter first second = concat (
    codes "constraint int_ne(" ∷ letter ∷ decimal first ∷ codes "," ∷ letter ∷ decimal second ∷ codes ");\n" ∷ [])

-- constraint int_lin_ne([1,-1],[NAME,NAME],DIFFERENCE); the difference as it is written
abbrev pub differ_not_by_line : List ℕ → ℕ → ℕ → List ℕ → List ℕ
differ_not_by_line letter first second difference = concat (
    codes "constraint int_lin_ne([1,-1],[" ∷ letter ∷ decimal first ∷ codes "," ∷ letter ∷ decimal second
    ∷ codes "]," ∷ difference ∷ codes ");\n" ∷ [])

-- the variables' difference is neither that of their numbers nor its negation
abbrev pub diagonal_lines : List ℕ → ℕ → ℕ → List ℕ
diagonal_lines letter first second =
    let distance = decimal (second - first) in
    differ_not_by_line letter first second distance ++ differ_not_by_line letter first second (codes "-" ++ distance)

-- the last line
abbrev pub solve_line : List ℕ
solve_line = codes "solve satisfy;\n"
