-- What the solutions of generated problems are: placements of queens and proper colourings. Columns, nodes and pigeons are numbered from 1.
use Rattle.std.specs.Prelude.{◌≡◌, ◌↔◌, ◌⊎◌, ℕ, suc, ◌-◌, ◌%◌, ◌==◌, ◌<◌, ◌≤◌, ℤ, pos, neg_ℤ, ◌-ℤ◌, ◌≤ℤ◌, List, [], ◌∷◌, codes, if◌then◌else◌}
use Rattle.dcsp_common.specs.Limits.{most}
use Rattle.dcsp_common.specs.declared.limits.Which.TheVariants.{Variables}
use Rattle.dcsp_gen.specs.Problems.{pairs}
use Rattle.dcsp_defs.specs.Words.{In}
use Rattle.dcsp_defs.specs.Csp.{Assignment, IsSolution, HasNoSolution}
use Rattle.dcsp_rule.specs.Problems.{csp_of}
use Rattle.law_subjects.specs.Lines.{queens, colouring, sparse, pigeons}
use Rattle.law_subjects.specs.Problems.{problem_of}

-- the value of the variable with this number
abbrev pub value_of : Assignment → ℕ → ℤ
value_of values number = values (number - 1)

-- each of the numbers 1 to count has a value from 1 to high
abbrev pub AreWithinHigh : ℕ → ℕ → (ℕ → ℤ) → Type 0
AreWithinHigh high count value = (k : ℕ) → 1 ≤ k → k ≤ count → (pos 1 ≤ℤ value k) × (value k ≤ℤ pos high)

-- the queens of two columns stand in one row, or as many rows apart as columns
abbrev pub Attack : (ℕ → ℤ) → ℕ → ℕ → Type 0
Attack row j k = (row j ≡ row k) ⊎ ((row j -ℤ row k ≡ pos (k - j)) ⊎ (row j -ℤ row k ≡ neg_ℤ (pos (k - j))))

-- a queen in each of n columns, in these rows of n, none of which attacks another
pub record IsPlacement (n : ℕ) (row : ℕ → ℤ) : Type 0 where
  pub rows : AreWithinHigh n n row
  pub peaceful : (j k : ℕ) → 1 ≤ j → j < k → k ≤ n → Attack row j k → ⊥

-- the pairs whose word is divisible by 4, in order, each with a word of its own
abbrev pub drawn : (ℕ → ℕ) → List (ℕ × ℕ) → List (ℕ × ℕ)
drawn words [] = []
drawn words (pair ∷ more) =
    if words 0 % 4 == 0 then pair ∷ drawn (λ k. words (suc k)) more else drawn (λ k. words (suc k)) more

-- the edges of a graph of n nodes that words draw
abbrev pub edges : ℕ → (ℕ → ℕ) → List (ℕ × ℕ)
edges n words = drawn words (pairs n)

-- one of k colours for each of n nodes, different ones for the two nodes of each edge
pub record IsProperColouring (n k : ℕ) (graph : List (ℕ × ℕ)) (colour : ℕ → ℤ) : Type 0 where
  pub colours : AreWithinHigh k n colour
  pub proper : (a b : ℕ) → In (a, b) graph → colour a ≡ colour b → ⊥

-- The solutions of n queens are the placements of n queens.
abbrev pub QueensArePlaced : Type 0
QueensArePlaced = (n : ℕ) → 1 ≤ n → n ≤ 200 → (values : Assignment)
    → IsSolution (csp_of (problem_of (codes "q") (queens n))) values ↔ IsPlacement n (value_of values)

-- The solutions of a colouring are the proper colourings of the graph that its words draw.
abbrev pub ColouringsAreProper : Type 0
ColouringsAreProper = (n k : ℕ) (words : ℕ → ℕ) → 1 ≤ n → n ≤ 200 → 1 ≤ k → k ≤ 16 → (values : Assignment)
    → IsSolution (csp_of (problem_of (codes "c") (colouring n k words))) values ↔ IsProperColouring n k (edges n words) (value_of values)

-- Pigeons do not fit into one hole fewer, one in each.
abbrev pub PigeonsDoNotFit : Type 0
PigeonsDoNotFit = (n : ℕ) → 2 ≤ n → n ≤ 200 → HasNoSolution (csp_of (problem_of (codes "p") (pigeons n)))

-- A sparse graph has a colouring, whatever the words: each node has three earlier neighbours at the most, and there are four colours.
abbrev pub SparseGraphsAreColoured : Type 0
SparseGraphsAreColoured = (n : ℕ) (words : ℕ → ℕ) → 1 ≤ n → n ≤ most Variables
    → (values : Assignment) × IsSolution (csp_of (problem_of (codes "c") (sparse n words))) values

-- Six queens can be placed.
abbrev pub SixQueensArePlaced : Type 0
SixQueensArePlaced = (values : Assignment) × IsSolution (csp_of (problem_of (codes "q") (queens 6))) values
