-- Which ordered pairs of agents are in a set.
use Rattle.std.specs.Prelude.{ℕ, Bool, false, List, [], filter, slice_index_or}
use Rattle.abt_defs.specs.Network.{pairs}

-- for each sender, and there for each receiver, whether their pair is in
pub record PairTable : Type 0 where
  pub agents : ℕ
  pub rows : List (List Bool)

-- whether the pair is in
abbrev pub has_pair : PairTable → ℕ → ℕ → Bool
has_pair table k i = slice_index_or (slice_index_or table.rows k []) i false

-- the pairs that are in, by sender and then by receiver
abbrev pub members : PairTable → List (ℕ × ℕ)
members table = filter (λ (x : ℕ × ℕ). has_pair table x.0 x.1) (pairs table.agents)
