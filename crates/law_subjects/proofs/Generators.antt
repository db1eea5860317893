-- The lines of each generator are within the limits of a problem.
use Rattle.std.proofs.Common.{◌≡◌, ℕ, ◌-◌, ◌*◌, ◌%◌, ◌==◌, ◌<◌, ◌≤◌, ◌^◌, inl, inr, Bool, true, false, List, [], ◌∷◌, ◌++◌, flat_map, length, sum_by, suc, codes, Ok, refl, sym, ap, ◌∙◌, subst, append_assoc, mul-le-mul, mod-lt, arith, if◌then◌else◌}
use Rattle.std.specs.List.{range_with_len, AllByRecursion}
use Rattle.std.proofs.lemmas.List.FromFn.{length-range_with_len}
use Rattle.std.proofs.lemmas.List.Sums.{sum_by-append}
use Rattle.dcsp_rule.specs.Rules.{size_of}
use Rattle.dcsp_gen.specs.Problems.{pairs, thrice}
use Rattle.law_subjects.specs.Lines.{ModelLine, Print, Differ, Solve, variables, queens_apart, queens, edge, colouring, neighbour, sparse, pigeons_apart, pigeons, lines_with_words, binary, binary_tables}
use Rattle.law_subjects.specs.Says.{AreSaid}
use Rattle.law_subjects.specs.Problems.{rules_of, IsConstraint, AreWithin, all_lines, problem_of}
use Rattle.law_subjects.specs.Generated.{Resolve, BinarySizesFit, GeneratedLinesResolve}
use Rattle.law_subjects.proofs.Lists.{all_weaker, all_flat_map, all_range, all_words, few_in_all, few_words}
use Rattle.law_subjects.proofs.Pairs.{IsPair, are_pairs, few_pairs, IsLater, are_later}
use Rattle.law_subjects.proofs.Tables.{fit, binary_many, binary_terms, binary_constrained}
use Rattle.law_subjects.proofs.Whole.{lines_have_problem}

-- ---- lines with and without an array

pub with_array : (high n : ℕ) (constraints : List ModelLine) → variables 1 high n ++ Print n ∷ constraints ++ Solve ∷ [] ≡ all_lines 1 high n (Print n ∷ []) constraints
with_array high n constraints = append_assoc (variables 1 high n) (Print n ∷ constraints) (Solve ∷ [])

pub without_array : (high n : ℕ) (constraints : List ModelLine) → variables 1 high n ++ constraints ++ Solve ∷ [] ≡ all_lines 1 high n [] constraints
without_array high n constraints = append_assoc (variables 1 high n) constraints (Solve ∷ [])

resolve : (letter : List ℕ) (high n : ℕ) (printed constraints lines : List ModelLine) → lines ≡ all_lines 1 high n printed constraints → AreWithin 1 high n printed constraints → Resolve letter lines
resolve letter high n printed constraints lines is within text items says =
    lines_have_problem text letter 1 high n printed constraints items within (subst (λ (ls : List ModelLine). AreSaid text letter ls items) is says)
    ∙ ap (λ (ls : List ModelLine). Ok (problem_of letter ls)) (sym is)

-- a line's rules have at most three terms
abbrev IsNarrow : ModelLine → Type 0
IsNarrow line = sum_by size_of (rules_of line) ≤ 3

narrow_sum : (lines : List ModelLine) → AllByRecursion IsNarrow lines → sum_by size_of (flat_map rules_of lines) ≤ 3 * length lines
narrow_sum [] h = omega arith
narrow_sum (line ∷ lines) h =
    let rest = narrow_sum lines h.1 in
    let sum = sum_by-append size_of (rules_of line) (flat_map rules_of lines) in
    let here = h.0 in
    omega (arith, rest, sum, here)

narrow_terms : (lines : List ModelLine) → AllByRecursion IsNarrow lines → length lines ≤ 120000 → sum_by size_of (flat_map rules_of lines) ≤ 1048576
narrow_terms lines h few = let sum = narrow_sum lines h in omega (arith, sum, few)

-- ---- queens

queens_constrained : (n : ℕ) (pair : ℕ × ℕ) → n ≤ 4096 → IsPair n pair → AllByRecursion (IsConstraint n) (queens_apart pair)
queens_constrained n (first, second) small h =
    let low = h.0 in
    let rising = h.1 in
    let high = h.2 in
    let among : (1 ≤ first) × (first ≤ n) × (1 ≤ second) × (second ≤ n) = (low, omega (arith, rising, high), omega (arith, low, rising), high) in
    let near : second - first < 2 ^ 32 = omega (arith, high, small) in
    (among, ((among, near), ((among, near), tt)))

pub queens_few : (n : ℕ) → n ≤ 200 → length (flat_map queens_apart (pairs n)) ≤ 120000
queens_few n small =
    let square : n * n ≤ 200 * 200 = mul-le-mul small small in
    let count = few_pairs n in
    let few = few_in_all queens_apart 3 (pairs n) (all_weaker (IsPair n) (λ pair. length (queens_apart pair) ≤ 3) (pairs n) (λ pair h. omega arith) (are_pairs n)) in
    omega (arith, few, count, square)

pub queens_within : (n : ℕ) → n ≤ 200 → AreWithin 1 n n (Print n ∷ []) (flat_map queens_apart (pairs n))
queens_within n small =
    let square : n * n ≤ 200 * 200 = mul-le-mul small small in
    record {
      array = inr refl;
      constrained = all_flat_map (IsConstraint n) queens_apart (pairs n) (all_weaker (IsPair n) (λ pair. AllByRecursion (IsConstraint n) (queens_apart pair)) (pairs n) (λ pair h. queens_constrained n pair (omega (arith, small)) h) (are_pairs n));
      variables = omega (arith, small);
      greatest = omega (arith, small);
      values = omega (arith, small);
      all_values = (let one : suc n - 1 ≡ n = omega arith in rw one (omega (arith, square)));
      rules = omega (arith, queens_few n small);
      terms = narrow_terms (flat_map queens_apart (pairs n)) (all_flat_map IsNarrow queens_apart (pairs n) (all_weaker (IsPair n) (λ pair. AllByRecursion IsNarrow (queens_apart pair)) (pairs n) (λ pair h. (omega arith, (omega arith, (omega arith, tt)))) (are_pairs n))) (queens_few n small);
    }

queens_resolve : (n : ℕ) → n ≤ 200 → Resolve (codes "q") (queens n)
queens_resolve n small = resolve (codes "q") n n (Print n ∷ []) (flat_map queens_apart (pairs n)) (queens n) (with_array n n (flat_map queens_apart (pairs n))) (queens_within n small)

-- ---- colouring

edge_constrained : (n word : ℕ) (pair : ℕ × ℕ) → IsPair n pair → AllByRecursion (IsConstraint n) (edge word pair)
edge_constrained n word (first, second) h = chosen (word % 4 == 0) where
  chosen : (b : Bool) → AllByRecursion (IsConstraint n) (if b then Differ first second ∷ [] else [])
  chosen true = ((h.0, omega (arith, h.1, h.2), omega (arith, h.0, h.1), h.2), tt)
  chosen false = tt

one_edge : (word : ℕ) (pair : ℕ × ℕ) → length (edge word pair) ≤ 1
one_edge word (first, second) = chosen (word % 4 == 0) where
  chosen : (b : Bool) → length (if b then Differ first second ∷ [] else []) ≤ 1
  chosen true = omega arith
  chosen false = omega arith

edge_narrow : (word : ℕ) (pair : ℕ × ℕ) → AllByRecursion IsNarrow (edge word pair)
edge_narrow word (first, second) = chosen (word % 4 == 0) where
  chosen : (b : Bool) → AllByRecursion IsNarrow (if b then Differ first second ∷ [] else [])
  chosen true = (omega arith, tt)
  chosen false = tt

pub colouring_few : (n : ℕ) (words : ℕ → ℕ) → n ≤ 200 → length (lines_with_words edge words (pairs n)) ≤ 120000
colouring_few n words small =
    let square : n * n ≤ 200 * 200 = mul-le-mul small small in
    let count = few_pairs n in
    let few = few_words edge words (pairs n) one_edge in
    omega (arith, few, count, square)

pub colouring_within : (n k : ℕ) (words : ℕ → ℕ) → n ≤ 200 → k ≤ 16 → AreWithin 1 k n (Print n ∷ []) (lines_with_words edge words (pairs n))
colouring_within n k words small low =
    let values : n * k ≤ 200 * 16 = mul-le-mul small low in
    record {
      array = inr refl;
      constrained = all_words (IsPair n) (IsConstraint n) edge words (pairs n) (edge_constrained n) (are_pairs n);
      variables = omega (arith, small);
      greatest = omega (arith, low);
      values = omega (arith, low);
      all_values = (let one : suc k - 1 ≡ k = omega arith in rw one (omega (arith, values)));
      rules = omega (arith, colouring_few n words small);
      terms = narrow_terms (lines_with_words edge words (pairs n)) (all_words (IsPair n) IsNarrow edge words (pairs n) (λ word pair h. edge_narrow word pair) (are_pairs n)) (colouring_few n words small);
    }

colouring_resolves : (n k : ℕ) (words : ℕ → ℕ) → n ≤ 200 → k ≤ 16 → Resolve (codes "c") (colouring n k words)
colouring_resolves n k words small low =
    resolve (codes "c") k n (Print n ∷ []) (lines_with_words edge words (pairs n)) (colouring n k words) (with_array k n (lines_with_words edge words (pairs n))) (colouring_within n k words small low)

-- ---- sparse colouring

neighbour_constrained : (n word node : ℕ) → IsLater n node → AllByRecursion (IsConstraint n) (neighbour word node)
neighbour_constrained n word node h =
    let low = h.0 in
    let high = h.1 in
    let rest : word % (node - 1) < node - 1 = mod-lt word (omega (arith, low)) in
    ((omega arith, omega (arith, rest, high), omega (arith, low), high), tt)

pub sparse_few : (n : ℕ) (words : ℕ → ℕ) → n ≤ 4096 → length (lines_with_words neighbour words (flat_map thrice (range_with_len 2 (n - 1)))) ≤ 120000
sparse_few n words small =
    let nodes = few_in_all thrice 3 (range_with_len 2 (n - 1)) (all_range (λ node. length (thrice node) ≤ 3) 2 (n - 1) (λ node l r. omega arith)) in
    let count = length-range_with_len 2 (n - 1) in
    let few = few_words neighbour words (flat_map thrice (range_with_len 2 (n - 1))) (λ word node. omega arith) in
    omega (arith, few, nodes, count, small)

pub sparse_within : (n : ℕ) (words : ℕ → ℕ) → n ≤ 4096 → AreWithin 1 4 n (Print n ∷ []) (lines_with_words neighbour words (flat_map thrice (range_with_len 2 (n - 1))))
sparse_within n words small =
    record {
      array = inr refl;
      constrained = all_words (IsLater n) (IsConstraint n) neighbour words (flat_map thrice (range_with_len 2 (n - 1))) (neighbour_constrained n) (are_later n);
      variables = small;
      greatest = omega arith;
      values = omega arith;
      all_values = omega (arith, small);
      rules = omega (arith, sparse_few n words small);
      terms =
          narrow_terms (lines_with_words neighbour words (flat_map thrice (range_with_len 2 (n - 1))))
          (all_words (IsLater n) IsNarrow neighbour words (flat_map thrice (range_with_len 2 (n - 1))) (λ word node h. (omega arith, tt)) (are_later n)) (sparse_few n words small);
    }

sparse_resolves : (n : ℕ) (words : ℕ → ℕ) → n ≤ 4096 → Resolve (codes "c") (sparse n words)
sparse_resolves n words small =
    resolve (codes "c") 4 n (Print n ∷ []) (lines_with_words neighbour words (flat_map thrice (range_with_len 2 (n - 1)))) (sparse n words)
    (with_array 4 n (lines_with_words neighbour words (flat_map thrice (range_with_len 2 (n - 1))))) (sparse_within n words small)

-- ---- pigeons

pigeons_constrained : (n : ℕ) (pair : ℕ × ℕ) → IsPair n pair → AllByRecursion (IsConstraint n) (pigeons_apart pair)
pigeons_constrained n (first, second) h =
    let low = h.0 in
    let rising = h.1 in
    let high = h.2 in
    ((low, omega (arith, rising, high), omega (arith, low, rising), high), tt)

pub pigeons_few : (n : ℕ) → n ≤ 200 → length (flat_map pigeons_apart (pairs n)) ≤ 120000
pigeons_few n small =
    let square : n * n ≤ 200 * 200 = mul-le-mul small small in
    let count = few_pairs n in
    let few = few_in_all pigeons_apart 1 (pairs n) (all_weaker (IsPair n) (λ pair. length (pigeons_apart pair) ≤ 1) (pairs n) (λ pair h. omega arith) (are_pairs n)) in
    omega (arith, few, count, square)

pub pigeons_within : (n : ℕ) → n ≤ 200 → AreWithin 1 (n - 1) n [] (flat_map pigeons_apart (pairs n))
pigeons_within n small =
    let less : n - 1 ≤ 200 = omega (arith, small) in
    let values : n * (n - 1) ≤ 200 * 200 = mul-le-mul small less in
    record {
      array = inl refl;
      constrained = all_flat_map (IsConstraint n) pigeons_apart (pairs n) (all_weaker (IsPair n) (λ pair. AllByRecursion (IsConstraint n) (pigeons_apart pair)) (pairs n) (pigeons_constrained n) (are_pairs n));
      variables = omega (arith, small);
      greatest = omega (arith, small);
      values = omega (arith, small);
      all_values = (let one : suc (n - 1) - 1 ≡ n - 1 = omega arith in rw one (omega (arith, values)));
      rules = omega (arith, pigeons_few n small);
      terms = narrow_terms (flat_map pigeons_apart (pairs n)) (all_flat_map IsNarrow pigeons_apart (pairs n) (all_weaker (IsPair n) (λ pair. AllByRecursion IsNarrow (pigeons_apart pair)) (pairs n) (λ pair h. (omega arith, tt)) (are_pairs n))) (pigeons_few n small);
    }

pigeons_resolve : (n : ℕ) → n ≤ 200 → Resolve (codes "p") (pigeons n)
pigeons_resolve n small =
    resolve (codes "p") (n - 1) n [] (flat_map pigeons_apart (pairs n)) (pigeons n) (without_array (n - 1) n (flat_map pigeons_apart (pairs n))) (pigeons_within n small)

-- ---- random binary problems

pub with_values : (high n : ℕ) (constraints : List ModelLine) → variables 0 high n ++ Print n ∷ constraints ++ Solve ∷ [] ≡ all_lines 0 high n (Print n ∷ []) constraints
with_values high n constraints = append_assoc (variables 0 high n) (Print n ∷ constraints) (Solve ∷ [])

pub binary_within : (n d edges forbidden : ℕ) (words : ℕ → ℕ) → BinarySizesFit n d edges forbidden → AreWithin 0 (d - 1) n (Print n ∷ []) (binary_tables n d edges forbidden words)
binary_within n d edges forbidden words sizes =
    let f = fit n d edges forbidden sizes.fit in
    let small = sizes.variables in
    let low = sizes.values in
    let span : suc (d - 1) - 0 ≤ 100 = (let some = sizes.some_values in omega (arith, low, some)) in
    let values : n * (suc (d - 1) - 0) ≤ 200 * 100 = mul-le-mul small span in
    let many = binary_many n d edges forbidden words f in
    let enough = f.variables in
    let all = few_pairs n in
    let square : n * n ≤ 200 * 200 = mul-le-mul small small in
    record {
      array = inr refl;
      constrained = binary_constrained n d edges forbidden words low f;
      variables = omega (arith, small);
      greatest = omega (arith, low);
      values = omega (arith, span);
      all_values = omega (arith, values);
      rules = omega (arith, many, enough, all, square);
      terms = binary_terms n d edges forbidden words f;
    }

binary_resolves : (n d edges forbidden : ℕ) (words : ℕ → ℕ) → BinarySizesFit n d edges forbidden → Resolve (codes "x") (binary n d edges forbidden words)
binary_resolves n d edges forbidden words sizes text items says =
    let constraints = binary_tables n d edges forbidden words in
    let is = with_values (d - 1) n constraints in
    lines_have_problem text (codes "x") 0 (d - 1) n (Print n ∷ []) constraints items (binary_within n d edges forbidden words sizes)
    (subst (λ (ls : List ModelLine). AreSaid text (codes "x") ls items) is says)
    ∙ ap (λ (ls : List ModelLine). Ok (problem_of (codes "x") ls)) (sym is)

-- ---- all of them

pub generated_lines_resolve : GeneratedLinesResolve
generated_lines_resolve = record {
  queens_do = λ n some small. queens_resolve n small;
  colouring_does = λ n k words some small coloured low. colouring_resolves n k words small low;
  sparse_does = λ n words some small. sparse_resolves n words small;
  pigeons_do = λ n some small. pigeons_resolve n small;
  binary_does = λ n d edges forbidden words sizes. binary_resolves n d edges forbidden words sizes;
}
