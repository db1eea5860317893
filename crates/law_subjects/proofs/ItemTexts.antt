-- Generated texts are their lines.
use Rattle.std.proofs.Common.{◌≡◌, ℕ, ◌+◌, ◌-◌, Bool, true, false, List, [], ◌∷◌, ◌++◌, flat_map, length, suc, refl, sym, arith, ap, ◌∙◌, append_assoc, append-nil}
use Rattle.std.specs.Prelude.{codes, decimal, ◌%◌, ◌==◌, if◌then◌else◌}
use Rattle.std.specs.List.{range_with_len, concat}
use Rattle.std.proofs.lemmas.Fmt.{decimal_digit}
use Rattle.std.proofs.lemmas.Grind.{flat_map-append}
use Rattle.std.proofs.lemmas.List.Folds.{flat_map-map}
use Rattle.dcsp_gen.specs.Lines.{variable_lines, array_line, differ_line, differ_not_by_line, solve_line}
use Rattle.dcsp_gen.specs.Words.{with_words}
use Rattle.dcsp_gen.specs.Problems.{pairs, thrice, queen_lines, edge_line, neighbour_line, apart_line}
use Rattle.law_subjects.specs.Lines.{ModelLine, Declare, Print, Differ, Solve, line_text, variables, queens_apart, lines_with_words, edge, neighbour, pigeons_apart, binary, binary_tables}
use Rattle.dcsp_gen.specs.Selection.{selected, words_after}
use Rattle.dcsp_gen.specs.Binary.{value_pairs, value_lines, table_lines, binary_text}
use Rattle.law_subjects.specs.Laws.{lines_text, TextsAreLines}
use Rattle.law_subjects.proofs.Tables.{tables_text}

-- the lines of each item, as text
pub flat_lines : {X : Type 0} (letter : List ℕ) (make : X → List ModelLine) (text : X → List ℕ) → ((x : X) → lines_text letter (make x) ≡ text x) → (xs : List X) → lines_text letter (flat_map make xs) ≡ flat_map text xs
flat_lines letter make text same [] = refl
flat_lines letter make text same (x ∷ xs) =
    flat_map-append (line_text letter) (make x) (flat_map make xs) ∙ ap (λ t. t ++ lines_text letter (flat_map make xs)) (same x) ∙ ap (λ t. text x ++ t) (flat_lines letter make text same xs)

-- the lines of each item and its word, as text
pub word_lines : {X : Type 0} (letter : List ℕ) (make : ℕ → X → List ModelLine) (text : ℕ → X → List ℕ) → ((word : ℕ) (x : X) → lines_text letter (make word x) ≡ text word x) → (words : ℕ → ℕ) (xs : List X)
    → lines_text letter (lines_with_words make words xs) ≡ with_words text words xs
word_lines letter make text same words [] = refl
word_lines letter make text same words (x ∷ xs) =
    let later = λ (k : ℕ). words (suc k) in
    flat_map-append (line_text letter) (make (words 0) x) (lines_with_words make later xs) ∙ ap (λ t. t ++ lines_text letter (lines_with_words make later xs)) (same (words 0) x)
    ∙ ap (λ t. text (words 0) x ++ t) (word_lines letter make text same later xs)

-- the line of a variable, where its lowest value is written so
abbrev from_low : List ℕ → ℕ → List ℕ → ℕ → List ℕ
from_low letter high low number = concat (codes "var " ∷ low ∷ codes ".." ∷ decimal high ∷ codes ": " ∷ letter ∷ decimal number ∷ codes ";\n" ∷ [])

-- the variables' lines, as text
pub variables_text : (letter : List ℕ) (high count : ℕ) → lines_text letter (variables 1 high count) ≡ variable_lines letter high count
variables_text letter high count =
    flat_map-map (line_text letter) (Declare 1 high) (range_with_len 1 count)
    ∙ ap (λ (low : List ℕ). flat_map (from_low letter high low) (range_with_len 1 count)) (decimal_digit 1 (omega arith))

-- lines with an array, as text
array_text : (letter : List ℕ) (high count : ℕ) (lines : List ModelLine) (text : List ℕ) → lines_text letter lines ≡ text
    → variable_lines letter high count ++ array_line letter count ++ text ++ solve_line ≡ lines_text letter (variables 1 high count ++ Print count ∷ lines ++ Solve ∷ [])
array_text letter high count lines text is =
    let f = line_text letter in
    let variable = variable_lines letter high count in
    let array = array_line letter count in
    let front : lines_text letter (variables 1 high count ++ Print count ∷ lines) ≡ variable ++ array ++ text =
    flat_map-append f (variables 1 high count) (Print count ∷ lines) ∙ ap (λ t. t ++ (array ++ lines_text letter lines)) (variables_text letter high count)
    ∙ ap (λ t. variable ++ (array ++ t)) is ∙ sym (append_assoc variable array text) in
    sym (flat_map-append f (variables 1 high count ++ Print count ∷ lines) (Solve ∷ []) ∙ ap (λ t. t ++ solve_line) front)

-- lines without an array, as text
plain_text : (letter : List ℕ) (high count : ℕ) (lines : List ModelLine) (text : List ℕ) → lines_text letter lines ≡ text
    → variable_lines letter high count ++ text ++ solve_line ≡ lines_text letter (variables 1 high count ++ lines ++ Solve ∷ [])
plain_text letter high count lines text is =
    let f = line_text letter in
    let front : lines_text letter (variables 1 high count ++ lines) ≡ variable_lines letter high count ++ text =
    flat_map-append f (variables 1 high count) lines ∙ ap (λ t. t ++ lines_text letter lines) (variables_text letter high count) ∙ ap (λ t. variable_lines letter high count ++ t) is in
    sym (flat_map-append f (variables 1 high count ++ lines) (Solve ∷ []) ∙ ap (λ t. t ++ solve_line) front)

-- the lines of two queens
queens_two : (pair : ℕ × ℕ) → lines_text (codes "q") (queens_apart pair) ≡ queen_lines pair
queens_two pair =
    let distance = decimal (pair.1 - pair.0) in
    let below = differ_not_by_line (codes "q") pair.0 pair.1 (codes "-" ++ distance) in
    ap (λ t. differ_line (codes "q") pair.0 pair.1 ++ (differ_not_by_line (codes "q") pair.0 pair.1 distance ++ t)) (append-nil below)

-- the line of two pigeons
pigeons_two : (pair : ℕ × ℕ) → lines_text (codes "p") (pigeons_apart pair) ≡ apart_line pair
pigeons_two pair = append-nil (differ_line (codes "p") pair.0 pair.1)

-- an edge, where there is one
edge_if : (b : Bool) (first second : ℕ) → lines_text (codes "c") (if b then Differ first second ∷ [] else []) ≡ (if b then differ_line (codes "c") first second else [])
edge_if true first second = append-nil (differ_line (codes "c") first second)
edge_if false first second = refl

-- the lines of a pair and its word
edge_of : (word : ℕ) (pair : ℕ × ℕ) → lines_text (codes "c") (edge word pair) ≡ edge_line word pair
edge_of word pair = edge_if (word % 4 == 0) pair.0 pair.1

-- the line of a node and its word
neighbour_of : (word node : ℕ) → lines_text (codes "c") (neighbour word node) ≡ neighbour_line word node
neighbour_of word node = append-nil (differ_line (codes "c") (1 + word % (node - 1)) node)

-- the lines of variables with values from 0 on, as text
values_text : (high count : ℕ) → lines_text (codes "x") (variables 0 high count) ≡ value_lines high count
values_text high count =
    flat_map-map (line_text (codes "x")) (Declare 0 high) (range_with_len 1 count)
    ∙ ap (λ (low : List ℕ). flat_map (from_low (codes "x") high low) (range_with_len 1 count)) (decimal_digit 0 (omega arith))

-- the lines of a random binary problem, as text
binary_text_is : (n d edges forbidden : ℕ) (words : ℕ → ℕ) → binary_text n d edges forbidden words ≡ lines_text (codes "x") (binary n d edges forbidden words)
binary_text_is n d edges forbidden words =
    let f = line_text (codes "x") in
    let constraints = binary_tables n d edges forbidden words in
    let declared = value_lines (d - 1) n in
    let array = array_line (codes "x") n in
    let told = table_lines forbidden (value_pairs d) (words_after (length (pairs n)) words) (selected true words edges (pairs n)) in
    let is = tables_text forbidden (value_pairs d) (words_after (length (pairs n)) words) (selected true words edges (pairs n)) in
    let front : lines_text (codes "x") (variables 0 (d - 1) n ++ Print n ∷ constraints) ≡ declared ++ array ++ told =
    flat_map-append f (variables 0 (d - 1) n) (Print n ∷ constraints) ∙ ap (λ t. t ++ (array ++ lines_text (codes "x") constraints)) (values_text (d - 1) n)
    ∙ ap (λ t. declared ++ (array ++ t)) is ∙ sym (append_assoc declared array told) in
    sym (flat_map-append f (variables 0 (d - 1) n ++ Print n ∷ constraints) (Solve ∷ []) ∙ ap (λ t. t ++ solve_line) front)

-- Generated texts are their lines.
pub texts_are_lines : TextsAreLines
texts_are_lines = record {
  queens_are = λ n. array_text (codes "q") n n (flat_map queens_apart (pairs n)) (flat_map queen_lines (pairs n)) (flat_lines (codes "q") queens_apart queen_lines queens_two (pairs n));
  colouring_is = λ n k words. array_text (codes "c") k n (lines_with_words edge words (pairs n)) (with_words edge_line words (pairs n)) (word_lines (codes "c") edge edge_line edge_of words (pairs n));
  sparse_is = λ n words.
      let nodes = flat_map thrice (range_with_len 2 (n - 1)) in
      array_text (codes "c") 4 n (lines_with_words neighbour words nodes) (with_words neighbour_line words nodes) (word_lines (codes "c") neighbour neighbour_line neighbour_of words nodes);
  pigeons_are = λ n. plain_text (codes "p") (n - 1) n (flat_map pigeons_apart (pairs n)) (flat_map apart_line (pairs n)) (flat_lines (codes "p") pigeons_apart apart_line pigeons_two (pairs n));
  binary_is = binary_text_is;
}
