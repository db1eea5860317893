-- The lines of generated problems are items, and generated problems are lines.
use Rattle.std.specs.Prelude.{◌≡◌, ◌≤◌, ◌^◌, ℕ, List, [], ◌∷◌, flat_map, codes, Ok}
use Rattle.std.specs.List.{AllByRecursion}
use Rattle.dcsp_common.specs.Limits.{most}
use Rattle.dcsp_common.specs.declared.limits.Which.TheVariants.{Variables}
use Rattle.fzn_token.specs.declared.token.Token.{Token}
use Rattle.fzn_token.specs.Reading as lexing
use Rattle.fzn_item.specs.declared.item.Item.{Item}
use Rattle.fzn_item.specs.Items as parsing
use Rattle.dcsp_gen.specs.Binary.{binary_text}
use Rattle.dcsp_gen.specs.Problems.{queens_text, colouring_text, sparse_text, pigeons_text}
use Rattle.law_subjects.specs.Lines.{ModelLine, Declare, Print, Differ, Above, Below, Table, Solve, line_text, queens, colouring, sparse, pigeons, binary}
use Rattle.law_subjects.specs.Says.{AreSaid}

-- one letter from a to z
pub record IsSmallLetter (letter : List ℕ) : Type 0 where
  pub byte : ℕ
  pub low : 97 ≤ byte
  pub high : byte ≤ 122
  pub letter_is : letter ≡ byte ∷ []

-- a number from 1 to 2^31
abbrev pub IsSmall : ℕ → Type 0
IsSmall n = (1 ≤ n) × (n ≤ 2 ^ 31)

-- the entries of a row are at most 2^16
abbrev pub HasSmallEntries : ℕ × ℕ → Type 0
HasSmallEntries row = (row.0 ≤ 2 ^ 16) × (row.1 ≤ 2 ^ 16)

-- the numbers of a line are so
abbrev pub HasSmallNumbers : ModelLine → Type 0
HasSmallNumbers (Declare low high number) = (low ≤ 2 ^ 31) × (high ≤ 2 ^ 31) × IsSmall number
HasSmallNumbers (Print count) = IsSmall count
HasSmallNumbers (Differ first second) = IsSmall first × IsSmall second
HasSmallNumbers (Above first second distance) = IsSmall first × IsSmall second × IsSmall distance
HasSmallNumbers (Below first second distance) = IsSmall first × IsSmall second × IsSmall distance
HasSmallNumbers (Table first second rows) = IsSmall first × IsSmall second × AllByRecursion HasSmallEntries rows
HasSmallNumbers Solve = Unit {0}

-- lines as text
abbrev pub lines_text : List ℕ → List ModelLine → List ℕ
lines_text letter lines = flat_map (line_text letter) lines

-- the text of some lines has tokens, and these are items, one for each line
pub record AreRead (letter : List ℕ) (lines : List ModelLine) : Type 0 where
  pub tokens : List Token
  pub items : List Item
  pub lexed : lexing.Answers (lines_text letter lines) (Ok tokens)
  pub parsed : parsing.Answers (lines_text letter lines) tokens (Ok items)
  pub said : AreSaid (lines_text letter lines) letter lines items

-- The text of lines reads as their items.
abbrev pub LinesAreRead : Type 0
LinesAreRead = (letter : List ℕ) (lines : List ModelLine) → IsSmallLetter letter → AllByRecursion HasSmallNumbers lines → AreRead letter lines

-- Generated texts are their lines.
pub record TextsAreLines : Type 0 where
  pub queens_are : (n : ℕ) → queens_text n ≡ lines_text (codes "q") (queens n)
  pub colouring_is : (n k : ℕ) (words : ℕ → ℕ) → colouring_text n k words ≡ lines_text (codes "c") (colouring n k words)
  pub sparse_is : (n : ℕ) (words : ℕ → ℕ) → sparse_text n words ≡ lines_text (codes "c") (sparse n words)
  pub pigeons_are : (n : ℕ) → pigeons_text n ≡ lines_text (codes "p") (pigeons n)
  pub binary_is : (n d edges forbidden : ℕ) (words : ℕ → ℕ) → binary_text n d edges forbidden words ≡ lines_text (codes "x") (binary n d edges forbidden words)

-- The numbers of generated lines are small, up to the limits of the generators.
pub record NumbersAreSmall : Type 0 where
  pub queens_are : (n : ℕ) → 1 ≤ n → n ≤ 200 → AllByRecursion HasSmallNumbers (queens n)
  pub colouring_is : (n k : ℕ) (words : ℕ → ℕ) → 1 ≤ n → n ≤ 200 → 1 ≤ k → k ≤ 16 → AllByRecursion HasSmallNumbers (colouring n k words)
  pub sparse_is : (n : ℕ) (words : ℕ → ℕ) → 1 ≤ n → n ≤ most Variables → AllByRecursion HasSmallNumbers (sparse n words)
  pub pigeons_are : (n : ℕ) → 2 ≤ n → n ≤ 200 → AllByRecursion HasSmallNumbers (pigeons n)
  pub binary_is : (n d edges forbidden : ℕ) (words : ℕ → ℕ) → 1 ≤ n → n ≤ 200 → 1 ≤ d → d ≤ 100 → AllByRecursion HasSmallNumbers (binary n d edges forbidden words)
