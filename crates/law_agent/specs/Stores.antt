-- How much an agent keeps.
use Rattle.dcsp_defs.specs.declared.nogood.Pair.{Pair}
use Rattle.std.specs.Prelude.{◌≡◌, ℕ, ◌+◌, ◌≤◌, ◌⊎◌, List, length, slice_get, Some, ℤ}
use Rattle.dcsp_defs.specs.Words.{In}
use Rattle.dcsp_defs.specs.Csp.{Csp, IsCsp, domain}
use Rattle.dcsp_defs.specs.Pairs.{value_at}
use Rattle.abt_defs.specs.Agents.{Agent, Record, known}
use Rattle.abt_defs.specs.Network.{run, start}
use Rattle.law_agent.specs.OneAgent.{Sound}

-- What agent i has recorded is at most one nogood for each value of its domain, and small.
pub record IsBoundedStore (p : Csp) (i : ℕ) (a : Agent) : Type 0 where
  pub few : length a.recorded ≤ length (domain p i)
  pub own : (x : Record) → In x a.recorded → (v : ℤ) × (value_at x.pairs i ≡ Some v) × In v (domain p i)
  pub apart : (m n : ℕ) (x y : Record) → slice_get a.recorded m ≡ Some x → slice_get a.recorded n ≡ Some y → value_at x.pairs i ≡ value_at y.pairs i → m ≡ n
  pub short : (x : Record) → In x a.recorded → length x.pairs ≤ i + 1
  pub agreeing : (x : Record) → In x a.recorded → (y : Pair) → In y x.pairs → (y.var ≡ i) ⊎ (known a y.var ≡ Some y.value)

-- It is so for each agent, whatever the choices were, in a refuted network too.
abbrev pub BoundedStores : Csp → Type 0
BoundedStores p = IsCsp p → (choices : List ℕ) (i : ℕ) → IsBoundedStore p i ((run p choices (start p)).agents i)

-- It is so for each agent of which holds what always does.
abbrev pub SoundStores : Csp → Type 0
SoundStores p = (i : ℕ) (a : Agent) → Sound p i a → IsBoundedStore p i a
