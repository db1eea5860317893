-- Generated texts have problems: those that their lines say.
use Rattle.std.specs.Prelude.{◌≡◌, ℕ, ◌≤◌, true, List, Ok, codes, length}
use Rattle.dcsp_common.specs.Limits.{most}
use Rattle.dcsp_common.specs.declared.limits.Which.TheVariants.{Variables}
use Rattle.dcsp_gen.specs.Binary.{binary_text, sizes_fit}
use Rattle.dcsp_gen.specs.Problems.{queens_text, colouring_text, sparse_text, pigeons_text}
use Rattle.dcsp_rule.specs.Problems.{Contents}
use Rattle.fzn_item.specs.declared.item.Item.{Item}
use Rattle.fzn_model.specs.Items.{resolved}
use Rattle.fzn_model.specs.Models.{longest_text, Answers}
use Rattle.law_subjects.specs.Lines.{ModelLine, queens, colouring, sparse, pigeons, binary}
use Rattle.law_subjects.specs.Says.{AreSaid}
use Rattle.law_subjects.specs.Problems.{problem_of}

-- items that say these lines, in any text, have the problem of the lines
abbrev pub Resolve : List ℕ → List ModelLine → Type 0
Resolve letter lines = (text : List ℕ) (items : List Item) → AreSaid text letter lines items → resolved text items ≡ Ok (problem_of letter lines)

-- the numbers of a random binary problem are within their ranges, and go together
pub record BinarySizesFit (n d edges forbidden : ℕ) : Type 0 where
  pub some_variables : 1 ≤ n
  pub variables : n ≤ 200
  pub some_values : 1 ≤ d
  pub values : d ≤ 100
  pub fit : sizes_fit n d edges forbidden ≡ true

-- Items that say generated lines have the problem of these lines, for all numbers of the generators.
pub record GeneratedLinesResolve : Type 0 where
  pub queens_do : (n : ℕ) → 1 ≤ n → n ≤ 200 → Resolve (codes "q") (queens n)
  pub colouring_does : (n k : ℕ) (words : ℕ → ℕ) → 1 ≤ n → n ≤ 200 → 1 ≤ k → k ≤ 16 → Resolve (codes "c") (colouring n k words)
  pub sparse_does : (n : ℕ) (words : ℕ → ℕ) → 1 ≤ n → n ≤ most Variables → Resolve (codes "c") (sparse n words)
  pub pigeons_do : (n : ℕ) → 2 ≤ n → n ≤ 200 → Resolve (codes "p") (pigeons n)
  pub binary_does : (n d edges forbidden : ℕ) (words : ℕ → ℕ) → BinarySizesFit n d edges forbidden → Resolve (codes "x") (binary n d edges forbidden words)

-- The text of n queens has the problem of its lines.
abbrev pub QueensHaveProblem : Type 0
QueensHaveProblem = (n : ℕ) → 1 ≤ n → n ≤ 200 → Answers (queens_text n) (Ok (problem_of (codes "q") (queens n)))

-- So has the text of a graph of n nodes and k colours, for every words.
abbrev pub ColouringHasProblem : Type 0
ColouringHasProblem = (n k : ℕ) (words : ℕ → ℕ) → 1 ≤ n → n ≤ 200 → 1 ≤ k → k ≤ 16 → Answers (colouring_text n k words) (Ok (problem_of (codes "c") (colouring n k words)))

-- So has that of a sparse graph of n nodes.
abbrev pub SparseHasProblem : Type 0
SparseHasProblem = (n : ℕ) (words : ℕ → ℕ) → 1 ≤ n → n ≤ most Variables → Answers (sparse_text n words) (Ok (problem_of (codes "c") (sparse n words)))

-- So has that of n pigeons.
abbrev pub PigeonsHaveProblem : Type 0
PigeonsHaveProblem = (n : ℕ) → 2 ≤ n → n ≤ 200 → Answers (pigeons_text n) (Ok (problem_of (codes "p") (pigeons n)))

-- So has that of a random binary problem, for every words.
abbrev pub BinaryHasProblem : Type 0
BinaryHasProblem = (n d edges forbidden : ℕ) (words : ℕ → ℕ) → BinarySizesFit n d edges forbidden
    → Answers (binary_text n d edges forbidden words) (Ok (problem_of (codes "x") (binary n d edges forbidden words)))

-- No generated text is too long for a model.
pub record AreShort : Type 0 where
  pub queens_are : (n : ℕ) → 1 ≤ n → n ≤ 200 → length (queens_text n) ≤ longest_text
  pub colouring_is : (n k : ℕ) (words : ℕ → ℕ) → 1 ≤ n → n ≤ 200 → 1 ≤ k → k ≤ 16 → length (colouring_text n k words) ≤ longest_text
  pub sparse_is : (n : ℕ) (words : ℕ → ℕ) → 1 ≤ n → n ≤ most Variables → length (sparse_text n words) ≤ longest_text
  pub pigeons_are : (n : ℕ) → 2 ≤ n → n ≤ 200 → length (pigeons_text n) ≤ longest_text
  pub binary_is : (n d edges forbidden : ℕ) (words : ℕ → ℕ) → BinarySizesFit n d edges forbidden → length (binary_text n d edges forbidden words) ≤ longest_text

-- the text has a problem
abbrev pub HasProblem : List ℕ → Type 0
HasProblem text = (problem : Contents) × Answers text (Ok problem)
