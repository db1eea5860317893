-- Rows of bits: one bit for each ordered pair, and what must hold of the counts beside them.
use Rattle.std.specs.Prelude.{◌≡◌, ◌<◌, ◌≤◌, ◌*◌, false, length, slice_index, ℕ, zero, suc, ◌+◌, cond, Bool, ◌/◌, ◌%◌, ◌==◌, List, [], map, filter, slice_index_or}
use Rattle.std.specs.Int.{bit_at}
use Rattle.dcsp_common.specs.Limits.{most}
use Rattle.dcsp_common.specs.declared.limits.Which.TheVariants.{Variables}
use Rattle.dcsp_defs.specs.Words.{below}
use Rattle.abt_defs.specs.Network.{pairs}
use Rattle.abt_links.specs.PairTables.{PairTable}

-- a row of words for each sender
pub record Marks : Type 0 where
  pub agents : ℕ
  pub rows : List (List ℕ)

-- whether bit number i of the words is set
abbrev pub is_set : List ℕ → ℕ → Bool
is_set words i = bit_at (slice_index_or words (i / 64) 0) (i % 64) == 1

-- whether the pair is in
abbrev pub marked : Marks → ℕ → ℕ → Bool
marked marks k i = is_set (slice_index_or marks.rows k []) i

-- the pairs that are in, by sender and then by receiver
abbrev pub marked_pairs : Marks → List (ℕ × ℕ)
marked_pairs marks = filter (λ (x : ℕ × ℕ). marked marks x.0 x.1) (pairs marks.agents)

-- how many numbers below n pass the test
abbrev pub rank : (ℕ → Bool) → ℕ → ℕ
rank p zero = 0
rank p (suc n) = rank p n + cond (p n) 1 0

-- the words of sender k
abbrev pub row_at : Marks → ℕ → List ℕ
row_at marks k = slice_index_or marks.rows k []

-- where there are several words, those whose bit is not set in `used` have no number
pub record AreUsed (words : List ℕ) (used : ℕ) : Type 0 where
  pub short : length words ≤ 64
  pub none : 1 < length words → (p : ℕ) → p < length words → bit_at used p ≡ 0 → slice_index_or words p 0 ≡ 0

-- the counts are those of the rows
pub record IsCounted (marks : Marks) (sums : List ℕ) : Type 0 where
  pub long : length marks.rows ≡ marks.agents
  pub small : marks.agents ≤ most Variables
  pub sums_long : length sums ≡ marks.agents
  pub room : (k : ℕ) → k < marks.agents → marks.agents ≤ 64 * length (row_at marks k)
  pub short : (k : ℕ) → k < marks.agents → length (row_at marks k) ≤ 64
  pub beyond : (k i : ℕ) → marks.agents ≤ i → marked marks k i ≡ false
  pub counts : (k : ℕ) → k < marks.agents → slice_index sums k ≡ rank (marked marks k) marks.agents

-- a row with room for numbers below the bound, and with none in
pub record IsFresh (bound : ℕ) (words : List ℕ) : Type 0 where
  pub room : bound ≤ 64 * length words
  pub short : length words ≤ 64
  pub none : (i : ℕ) → is_set words i ≡ false

-- the table of pairs that the bits stand for
abbrev pub table_of : Marks → PairTable
table_of marks = record { agents = marks.agents; rows = map (λ (words : List ℕ). map (is_set words) (below marks.agents)) marks.rows }
