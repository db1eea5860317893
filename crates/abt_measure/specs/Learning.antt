-- What the code keeps of what agents were told.
use Rattle.std.specs.Prelude.{◌≡◌, ◌≢◌, ℕ, ◌==◌, not, List, [], filter, slice_index_or}
use Rattle.dcsp_defs.specs.declared.nogood.Pair.{Pair}
use Rattle.abt_defs.specs.Agents.{Message}
use Rattle.abt_defs.specs.Events.{Act}
use Rattle.abt_defs.specs.Measures.{learned_pairs, once, told_by}

-- what agent i was told
abbrev pub pairs_at : List (List Pair) → ℕ → List Pair
pairs_at lists i = slice_index_or lists i []

-- the values of others than i
abbrev pub others : ℕ → List Pair → List Pair
others i pairs = filter (λ (y : Pair). not (y.var == i)) pairs

-- the same of those that a message from k tells
abbrev pub others_told : ℕ → ℕ → Message → List Pair
others_told i k m = others i (told_by k m)

-- agent i has learned these, and the other agents nothing
pub record Learns (i : ℕ) (pairs : List Pair) (old new : List (List Pair)) : Type 0 where
  pub here : pairs_at new i ≡ once (pairs_at old i) pairs
  pub elsewhere : (k : ℕ) → k ≢ i → pairs_at new k ≡ pairs_at old k

-- the agents were told this in these acts
pub record AreLearned (acts : List Act) (lists : List (List Pair)) : Type 0 where
  pub each : (i : ℕ) → pairs_at lists i ≡ learned_pairs acts i
