-- The lengths of generated texts.
use Rattle.std.proofs.Common.{◌≡◌, ℕ, zero, suc, ◌+◌, ◌-◌, ◌*◌, ◌≤◌, ◌^◌, ◌⊎◌, inl, inr, List, [], ◌∷◌, ◌++◌, map, flat_map, length, sum_by, codes, refl, ap, ◌∙◌, length-append, mul-le-mul, arith}
use Rattle.std.specs.Prelude.{decimal}
use Rattle.std.specs.List.{concat, range_with_len, join_with_byte, AllByRecursion}
use Rattle.std.proofs.lemmas.Fmt.{length-decimal-le}
use Rattle.dcsp_gen.specs.Lines.{name, names, differ_not_by_line}
use Rattle.std.proofs.lemmas.List.Sums.{sum_by-append}
use Rattle.dcsp_rule.specs.Rules.{size_of}
use Rattle.dcsp_gen.specs.Binary.{entries, entry, later_entry}
use Rattle.dcsp_gen.specs.Problems.{pairs, thrice}
use Rattle.fzn_model.specs.Models.{longest_text}
use Rattle.law_subjects.specs.Lines.{ModelLine, Declare, Print, Differ, Above, Below, Table, Solve, line_text, variables, queens_apart, queens, edge, colouring, neighbour, sparse, pigeons_apart, pigeons, lines_with_words, binary, binary_tables}
use Rattle.law_subjects.specs.Laws.{HasSmallEntries, HasSmallNumbers, IsSmall, lines_text}
use Rattle.law_subjects.proofs.Steps.{many_entries}
use Rattle.law_subjects.proofs.ItemTexts.{texts_are_lines}
use Rattle.law_subjects.proofs.ItemLimits.{numbers_are_small}
use Rattle.law_subjects.specs.Problems.{rules_of, IsConstraint, AreWithin, all_lines}
use Rattle.law_subjects.specs.Generated.{AreShort}
use Rattle.law_subjects.proofs.Generators.{with_array, without_array, queens_few, queens_within, colouring_few, colouring_within, sparse_few, sparse_within, pigeons_few, pigeons_within, with_values, binary_within}
use Rattle.law_subjects.proofs.Pairs.{few_pairs}
use Rattle.law_subjects.proofs.Tables.{fit, binary_many}

digits : (n : ℕ) → IsSmall n → length (decimal n) ≤ 10
digits n small = length-decimal-le 10 n (omega arith) (omega (arith, small.1)) (omega (arith, small.1))

pub digits_to : (n : ℕ) → n ≤ 2 ^ 31 → length (decimal n) ≤ 10
digits_to n small = length-decimal-le 10 n (omega arith) (omega (arith, small)) (omega (arith, small))

few_digits : (n : ℕ) → n ≤ 2 ^ 16 → length (decimal n) ≤ 5
few_digits n small = length-decimal-le 5 n (omega arith) (omega (arith, small)) (omega (arith, small))

-- what each of some counts for, added up
abbrev pub total : {X : Type 0} → (X → ℕ) → List X → ℕ
total f [] = 0
total f (x ∷ xs) = f x + total f xs

-- pieces one after another
pub concat_length : (pieces : List (List ℕ)) → length (concat pieces) ≡ total (λ (piece : List ℕ). length piece) pieces
concat_length [] = refl
concat_length (piece ∷ pieces) = length-append piece (concat pieces) ∙ ap (λ n. length piece + n) (concat_length pieces)

name_length : (letter : List ℕ) (number : ℕ) → length letter ≡ 1 → IsSmall number → length (name letter number) ≤ 11
name_length letter number one small = omega (arith, one, digits number small, length-append letter (decimal number))

-- names with commas between them
names_length : (letter : List ℕ) (first count : ℕ) → length letter ≡ 1 → 1 ≤ first → first + count ≤ 2 ^ 31 + 1
    → length (join_with_byte 44 (map (name letter) (range_with_len first count))) ≤ 12 * count
names_length letter first zero one some small = omega arith
names_length letter first (suc zero) one some small = let n = name_length letter first one (some, omega arith) in omega (arith, n)
names_length letter first (suc (suc count)) one some small =
    let n = name_length letter first one (some, omega arith) in
    let rest = names_length letter (first + 1) (suc count) one (omega arith) (omega arith) in
    let others = join_with_byte 44 (map (name letter) (range_with_len (first + 1) (suc count))) in
    omega (arith, n, rest, length-append (name letter first) (44 ∷ others))

-- a row has at most two entries of five digits and two commas
row_length : (row : ℕ × ℕ) → HasSmallEntries row → length (entry row) ≤ 11
row_length (first, second) small =
    let all = concat_length (decimal first ∷ codes "," ∷ decimal second ∷ []) in
    omega (arith, all, few_digits first small.0, few_digits second small.1)

later_length : (rows : List (ℕ × ℕ)) → AllByRecursion HasSmallEntries rows → length (flat_map later_entry rows) ≤ 12 * length rows
later_length [] small = omega arith
later_length (row ∷ rows) small =
    let here = row_length row small.0 in
    let rest = later_length rows small.1 in
    omega (arith, here, rest, length-append (later_entry row) (flat_map later_entry rows))

pub entries_length : (rows : List (ℕ × ℕ)) → AllByRecursion HasSmallEntries rows → length (entries rows) ≤ 12 * length rows
entries_length [] small = omega arith
entries_length (row ∷ rows) small =
    let here = row_length row small.0 in
    let rest = later_length rows small.1 in
    omega (arith, here, rest, length-append (entry row) (flat_map later_entry rows))

-- the most bytes of a line: its words, and its numbers of ten digits each
abbrev room : ModelLine → ℕ
room (Declare low high number) = 80
room (Print count) = 80 + 12 * count
room (Differ first second) = 80
room (Above first second distance) = 80
room (Below first second distance) = 80
room (Table first second rows) = 80 + 12 * length rows
room Solve = 80

apart_length : (letter : List ℕ) (first second : ℕ) (difference : List ℕ) → length letter ≡ 1 → IsSmall first → IsSmall second → length difference ≤ 11 → length (differ_not_by_line letter first second difference) ≤ 80
apart_length letter first second difference one low high few =
    let all = concat_length (codes "constraint int_lin_ne([1,-1],[" ∷ letter ∷ decimal first ∷ codes "," ∷ letter ∷ decimal second ∷ codes "]," ∷ difference ∷ codes ");\n" ∷ []) in
    omega (arith, all, one, digits first low, digits second high, few)

line_length : (letter : List ℕ) (line : ModelLine) → length letter ≡ 1 → HasSmallNumbers line → length (line_text letter line) ≤ room line
line_length letter (Declare low high number) one small =
    let all = concat_length (codes "var " ∷ decimal low ∷ codes ".." ∷ decimal high ∷ codes ": " ∷ letter ∷ decimal number ∷ codes ";\n" ∷ []) in
    omega (arith, all, one, digits_to low small.0, digits_to high small.1, digits number small.2)
line_length letter (Print count) one small =
    let all = concat_length (codes "array [1.." ∷ decimal count ∷ codes "] of var int: " ∷ letter ∷ codes " :: output_array([1.." ∷ decimal count ∷ codes "]) = [" ∷ names letter count ∷ codes "];\n" ∷ []) in
    let list = names_length letter 1 count one (omega arith) (omega (arith, small.1)) in
    omega (arith, all, one, digits count small, list)
line_length letter (Differ first second) one small =
    let all = concat_length (codes "constraint int_ne(" ∷ letter ∷ decimal first ∷ codes "," ∷ letter ∷ decimal second ∷ codes ");\n" ∷ []) in
    omega (arith, all, one, digits first small.0, digits second small.1)
line_length letter (Above first second distance) one small =
    apart_length letter first second (decimal distance) one small.0 small.1 (let d = digits distance small.2 in omega (arith, d))
line_length letter (Below first second distance) one small =
    apart_length letter first second (codes "-" ++ decimal distance) one small.0 small.1 (let d = digits distance small.2 in omega (arith, d, length-append (codes "-") (decimal distance)))
line_length letter (Table first second rows) one small =
    let all = concat_length (codes "constraint fzn_table_int([" ∷ letter ∷ decimal first ∷ codes "," ∷ letter ∷ decimal second ∷ codes "],[" ∷ entries rows ∷ codes "]);\n" ∷ []) in
    omega (arith, all, one, digits first small.0, digits second small.1, entries_length rows small.2)
line_length letter Solve one small = omega arith

lines_length : (letter : List ℕ) (lines : List ModelLine) → length letter ≡ 1 → AllByRecursion HasSmallNumbers lines → length (lines_text letter lines) ≤ total room lines
lines_length letter [] one small = omega arith
lines_length letter (line ∷ lines) one small =
    let here = line_length letter line one small.0 in
    let rest = lines_length letter lines one small.1 in
    omega (arith, here, rest, length-append (line_text letter line) (lines_text letter lines))

-- the room of all lines
room_append : (one two : List ModelLine) → total room (one ++ two) ≡ total room one + total room two
room_append [] two = omega arith
room_append (line ∷ one) two = let rest = room_append one two in omega (arith, rest)

variables_room : (low high first count : ℕ) → total room (map (Declare low high) (range_with_len first count)) ≡ 80 * count
variables_room low high first zero = refl
variables_room low high first (suc count) = let rest = variables_room low high (first + 1) count in omega (arith, rest)

constraint_room : (n : ℕ) (line : ModelLine) → IsConstraint n line → room line ≤ 80 + 6 * sum_by size_of (rules_of line)
constraint_room n (Declare low high number) is = absurd is
constraint_room n (Print count) is = absurd is
constraint_room n (Differ first second) is = omega arith
constraint_room n (Above first second distance) is = omega arith
constraint_room n (Below first second distance) is = omega arith
constraint_room n (Table first second rows) is = let many = many_entries rows in omega (arith, many)
constraint_room n Solve is = absurd is

constraints_room : (n : ℕ) (lines : List ModelLine) → AllByRecursion (IsConstraint n) lines → total room lines ≤ 80 * length lines + 6 * sum_by size_of (flat_map rules_of lines)
constraints_room n [] are = omega arith
constraints_room n (line ∷ lines) are =
    let here = constraint_room n line are.0 in
    let rest = constraints_room n lines are.1 in
    let sum = sum_by-append size_of (rules_of line) (flat_map rules_of lines) in
    omega (arith, here, rest, sum)

printed_room : (n : ℕ) (printed : List ModelLine) → n ≤ 4096 → (printed ≡ []) ⊎ (printed ≡ Print n ∷ []) → total room printed ≤ 50000
printed_room n printed few (inl none) = let is = ap (λ (ls : List ModelLine). total room ls) none in omega (arith, is)
printed_room n printed few (inr some) = let is = ap (λ (ls : List ModelLine). total room ls) some in omega (arith, is, few)

-- lines within the limits of a problem are short where the constraints are few
short : (letter : List ℕ) (low high n : ℕ) (printed constraints lines : List ModelLine) (text : List ℕ) → length letter ≡ 1 → lines ≡ all_lines low high n printed constraints → AreWithin low high n printed constraints
    → length constraints ≤ 120000 → AllByRecursion HasSmallNumbers lines → text ≡ lines_text letter lines → length text ≤ longest_text
short letter low high n printed constraints lines text one is within few small text_is =
    let all = lines_length letter lines one small in
    let whole = ap (λ (ls : List ModelLine). total room ls) is in
    let first = room_append (variables low high n) (printed ++ (constraints ++ Solve ∷ [])) in
    let second = room_append printed (constraints ++ Solve ∷ []) in
    let third = room_append constraints (Solve ∷ []) in
    let declared = variables_room low high 1 n in
    let told = printed_room n printed within.variables within.array in
    let ruled = constraints_room n constraints within.constrained in
    let long = ap (λ (bytes : List ℕ). length bytes) text_is in
    omega (arith, all, whole, first, second, third, declared, told, ruled, long, few, within.variables, within.terms)

-- No generated text is too long for a model.
pub are_short : AreShort
are_short = record {
  queens_are = λ n some few.
      let constraints = flat_map queens_apart (pairs n) in
      short (codes "q") 1 n n (Print n ∷ []) constraints (queens n) _ refl (with_array n n constraints) (queens_within n few) (queens_few n few) (numbers_are_small.queens_are n some few) (texts_are_lines.queens_are n);
  colouring_is = λ n k words some few coloured low.
      let constraints = lines_with_words edge words (pairs n) in
      short (codes "c") 1 k n (Print n ∷ []) constraints (colouring n k words) _ refl (with_array k n constraints) (colouring_within n k words few low) (colouring_few n words few) (numbers_are_small.colouring_is n k words some few coloured low) (texts_are_lines.colouring_is n k words);
  sparse_is = λ n words some few.
      let constraints = lines_with_words neighbour words (flat_map thrice (range_with_len 2 (n - 1))) in
      short (codes "c") 1 4 n (Print n ∷ []) constraints (sparse n words) _ refl (with_array 4 n constraints) (sparse_within n words few) (sparse_few n words few) (numbers_are_small.sparse_is n words some few) (texts_are_lines.sparse_is n words);
  pigeons_are = λ n some few.
      let constraints = flat_map pigeons_apart (pairs n) in
      short (codes "p") 1 (n - 1) n [] constraints (pigeons n) _ refl (without_array (n - 1) n constraints) (pigeons_within n few) (pigeons_few n few) (numbers_are_small.pigeons_are n some few) (texts_are_lines.pigeons_are n);
  binary_is = λ n d edges forbidden words sizes.
      let constraints = binary_tables n d edges forbidden words in
      let f = fit n d edges forbidden sizes.fit in
      let few : length constraints ≤ 120000 =
      (let many = binary_many n d edges forbidden words f in
      let enough = f.variables in
      let all = few_pairs n in
      let variables = sizes.variables in
      let square : n * n ≤ 200 * 200 = mul-le-mul variables variables in
      omega (arith, many, enough, all, square)) in
      short (codes "x") 0 (d - 1) n (Print n ∷ []) constraints (binary n d edges forbidden words) _ refl (with_values (d - 1) n constraints) (binary_within n d edges forbidden words sizes) few
      (numbers_are_small.binary_is n d edges forbidden words sizes.some_variables sizes.variables sizes.some_values sizes.values) (texts_are_lines.binary_is n d edges forbidden words);
}
