-- The numbers of generated lines are small.
use Rattle.std.proofs.Common.{ℕ, ◌+◌, ◌-◌, ◌<◌, ◌≤◌, ◌^◌, Bool, true, false, List, [], ◌∷◌, ◌++◌, map, flat_map, zero, suc, arith}
use Rattle.std.specs.Prelude.{◌%◌, ◌==◌, if◌then◌else◌}
use Rattle.std.specs.List.{AllByRecursion, range_with_len}
use Rattle.dcsp_gen.specs.Problems.{pairs_of, pairs, thrice}
use Rattle.law_subjects.specs.Lines.{ModelLine, Declare, Print, Differ, Solve, variables, queens_apart, lines_with_words, edge, neighbour, pigeons_apart, binary_tables}
use Rattle.law_subjects.specs.Laws.{IsSmall, HasSmallNumbers, NumbersAreSmall}
use Rattle.law_subjects.proofs.Tables.{binary_small}

-- what holds of each of some and of each of others holds of all
all_append : {X : Type 0} (P : X → Type 0) (xs ys : List X) → AllByRecursion P xs → AllByRecursion P ys → AllByRecursion P (xs ++ ys)
all_append P [] ys first second = second
all_append P (x ∷ xs) ys first second = (first.0, all_append P xs ys first.1 second)

-- of what a function makes of each
all_map : {X Y : Type 0} (Q : X → Type 0) (P : Y → Type 0) (f : X → Y) (xs : List X) → AllByRecursion Q xs → ((x : X) → Q x → P (f x)) → AllByRecursion P (map f xs)
all_map Q P f [] all each = tt
all_map Q P f (x ∷ xs) all each = (each x all.0, all_map Q P f xs all.1 each)

-- of lists that it makes
all_flat : {X Y : Type 0} (Q : X → Type 0) (P : Y → Type 0) (f : X → List Y) (xs : List X) → AllByRecursion Q xs → ((x : X) → Q x → AllByRecursion P (f x)) → AllByRecursion P (flat_map f xs)
all_flat Q P f [] all each = tt
all_flat Q P f (x ∷ xs) all each = all_append P (f x) (flat_map f xs) (each x all.0) (all_flat Q P f xs all.1 each)

-- of lines that are made with words
all_words : {X : Type 0} (Q : X → Type 0) (P : ModelLine → Type 0) (f : ℕ → X → List ModelLine) (words : ℕ → ℕ) (xs : List X) → AllByRecursion Q xs → ((word : ℕ) (x : X) → Q x → AllByRecursion P (f word x)) → AllByRecursion P (lines_with_words f words xs)
all_words Q P f words [] all each = tt
all_words Q P f words (x ∷ xs) all each = all_append P (f (words 0) x) _ (each (words 0) x all.0) (all_words Q P f (λ k. words (suc k)) xs all.1 each)

-- the numbers of a range
abbrev Between : ℕ → ℕ → ℕ → Type 0
Between low end k = (low ≤ k) × (k < end)

all_range : (low count first end : ℕ) → low ≤ first → first + count ≤ end → AllByRecursion (Between low end) (range_with_len first count)
all_range low zero first end from to = tt
all_range low (suc count) first end from to = ((from, omega arith), all_range low count (first + 1) end (omega arith) (omega arith))

-- two numbers from 1 to n, the lesser first
abbrev IsPair : ℕ → ℕ × ℕ → Type 0
IsPair n pair = (1 ≤ pair.0) × (pair.0 < pair.1) × (pair.1 ≤ n)

all_pairs : (n : ℕ) → AllByRecursion (IsPair n) (pairs n)
all_pairs n = all_flat (Between 1 (1 + n)) (IsPair n) (pairs_of n) (range_with_len 1 n) (all_range 1 n 1 (1 + n) (omega arith) (omega arith)) (λ first is.
    all_map (Between (first + 1) (1 + n)) (IsPair n) (λ second. (first, second)) (range_with_len (first + 1) (n - first))
    (all_range (first + 1) (n - first) (first + 1) (1 + n) (omega arith) (omega arith)) (λ second bounds. (omega arith, omega arith, omega arith)))

-- the variables' lines
all_variables : (high count : ℕ) → 1 ≤ high → high ≤ 2 ^ 31 → count ≤ 2 ^ 31 → AllByRecursion HasSmallNumbers (variables 1 high count)
all_variables high count some small few =
    all_map (Between 1 (1 + count)) HasSmallNumbers (Declare 1 high) (range_with_len 1 count) (all_range 1 count 1 (1 + count) (omega arith) (omega arith)) (λ k is. (omega arith, small, (omega arith, omega arith)))

-- lines with an array
all_array : (high count : ℕ) (lines : List ModelLine) → 1 ≤ high → high ≤ 2 ^ 31 → 1 ≤ count → count ≤ 2 ^ 31 → AllByRecursion HasSmallNumbers lines → AllByRecursion HasSmallNumbers (variables 1 high count ++ Print count ∷ lines ++ Solve ∷ [])
all_array high count lines some small any few all =
    all_append HasSmallNumbers (variables 1 high count ++ Print count ∷ lines) (Solve ∷ []) (all_append HasSmallNumbers (variables 1 high count) (Print count ∷ lines) (all_variables high count some small few) ((any, few), all)) (tt, tt)

-- two pigeons or two nodes
differ_small : (n : ℕ) (pair : ℕ × ℕ) → n ≤ 2 ^ 31 → IsPair n pair → HasSmallNumbers (Differ pair.0 pair.1)
differ_small n pair few is = ((omega arith, omega arith), (omega arith, omega arith))

-- two queens
queens_small : (n : ℕ) (pair : ℕ × ℕ) → n ≤ 2 ^ 31 → IsPair n pair → AllByRecursion HasSmallNumbers (queens_apart pair)
queens_small n pair few is =
    let first : IsSmall pair.0 = (omega arith, omega arith) in
    let second : IsSmall pair.1 = (omega arith, omega arith) in
    let distance : IsSmall (pair.1 - pair.0) = (omega arith, omega arith) in
    ((first, second), ((first, second, distance), ((first, second, distance), tt)))

-- an edge, where there is one
edge_small : (b : Bool) (n : ℕ) (pair : ℕ × ℕ) → n ≤ 2 ^ 31 → IsPair n pair → AllByRecursion HasSmallNumbers (if b then Differ pair.0 pair.1 ∷ [] else [])
edge_small true n pair few is = (differ_small n pair few is, tt)
edge_small false n pair few is = tt

-- a node, three times
thrice_all : (P : ℕ → Type 0) (node : ℕ) → P node → AllByRecursion P (thrice node)
thrice_all P node is = (is, (is, (is, tt)))

-- a node and an earlier one
neighbour_small : (n word node : ℕ) → n ≤ 2 ^ 31 → Between 2 (1 + n) node → AllByRecursion HasSmallNumbers (neighbour word node)
neighbour_small n word node few is =
    let some : 0 < node - 1 = omega arith in
    (((omega arith, omega arith), (omega arith, omega arith)), tt)

-- The numbers of generated lines are small.
pub numbers_are_small : NumbersAreSmall
numbers_are_small = record {
  queens_are = λ n some few.
      let small : n ≤ 2 ^ 31 = omega arith in
      all_array n n (flat_map queens_apart (pairs n)) some small some small (all_flat (IsPair n) HasSmallNumbers queens_apart (pairs n) (all_pairs n) (λ pair is. queens_small n pair small is));
  colouring_is = λ n k words some few colour colours.
      let small : n ≤ 2 ^ 31 = omega arith in
      all_array k n (lines_with_words edge words (pairs n)) colour (omega arith) some small (all_words (IsPair n) HasSmallNumbers edge words (pairs n) (all_pairs n) (λ word pair is. edge_small (word % 4 == 0) n pair small is));
  sparse_is = λ n words some few.
      let small : n ≤ 2 ^ 31 = omega arith in
      let nodes = flat_map thrice (range_with_len 2 (n - 1)) in
      let all = all_flat (Between 2 (1 + n)) (Between 2 (1 + n)) thrice (range_with_len 2 (n - 1)) (all_range 2 (n - 1) 2 (1 + n) (omega arith) (omega arith)) (thrice_all (Between 2 (1 + n))) in
      all_array 4 n (lines_with_words neighbour words nodes) (omega arith) (omega arith) some small (all_words (Between 2 (1 + n)) HasSmallNumbers neighbour words nodes all (λ word node is. neighbour_small n word node small is));
  pigeons_are = λ n some few.
      let small : n ≤ 2 ^ 31 = omega arith in
      let pairs_small = all_flat (IsPair n) HasSmallNumbers pigeons_apart (pairs n) (all_pairs n) (λ pair is. (differ_small n pair small is, tt)) in
      all_append HasSmallNumbers (variables 1 (n - 1) n ++ flat_map pigeons_apart (pairs n)) (Solve ∷ [])
      (all_append HasSmallNumbers (variables 1 (n - 1) n) (flat_map pigeons_apart (pairs n)) (all_variables (n - 1) n (omega arith) (omega arith) small) pairs_small) (tt, tt);
  binary_is = λ n d edges forbidden words some few any small.
      all_append HasSmallNumbers (variables 0 (d - 1) n ++ Print n ∷ binary_tables n d edges forbidden words) (Solve ∷ [])
      (all_append HasSmallNumbers (variables 0 (d - 1) n) (Print n ∷ binary_tables n d edges forbidden words)
      (all_map (Between 1 (1 + n)) HasSmallNumbers (Declare 0 (d - 1)) (range_with_len 1 n) (all_range 1 n 1 (1 + n) (omega arith) (omega arith)) (λ k is. (omega arith, omega (arith, small), (omega arith, omega arith))))
      ((some, omega (arith, few)), binary_small n d edges forbidden words few small)) (tt, tt);
}
