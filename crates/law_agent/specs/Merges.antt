-- The nogood that an agent derives is the union of what its reasons contribute, and these never clash.
use Rattle.std.specs.Prelude.{◌≡◌, ◌≢◌, ℕ, List, Some, ℤ}
use Rattle.dcsp_defs.specs.Pairs.{value_at, AgreeAt}
use Rattle.dcsp_defs.specs.Words.{In}
use Rattle.dcsp_defs.specs.Csp.{Csp, IsCsp}
use Rattle.abt_defs.specs.Agents.{Agent, plain, known}
use Rattle.abt_defs.specs.Reasons.{Item, causes, derived}
use Rattle.abt_defs.specs.Network.{run, start}
use Rattle.law_agent.specs.OneAgent.{Sound}

-- the derived nogood of agent i is the union of the pairs of its reasons, without its own variable's
pub record IsUnionOfReasons (p : Csp) (i : ℕ) (a : Agent) : Type 0 where
  -- no two reasons clash
  pub agree : (x y : Item) → In x (causes p i (known a) a.recorded) → In y (causes p i (known a) a.recorded)
      → (k : ℕ) → AgreeAt (x.pairs (known a)) (y.pairs (known a)) i k
  -- what a reason contributes is in it
  pub has : (x : Item) → In x (causes p i (known a) a.recorded)
      → (k : ℕ) (v : ℤ) → k ≢ i → value_at (x.pairs (known a)) k ≡ Some v → value_at (plain (derived p i a.view a.recorded)) k ≡ Some v
  -- and nothing else is
  pub only : (k : ℕ) (v : ℤ) → value_at (plain (derived p i a.view a.recorded)) k ≡ Some v
      → (x : Item) × In x (causes p i (known a) a.recorded) × (k ≢ i) × (value_at (x.pairs (known a)) k ≡ Some v)

-- It is so for each agent, whatever the choices were, in a refuted network too, where the last settle derived the empty nogood.
abbrev pub MergesAreUnions : Csp → Type 0
MergesAreUnions p = IsCsp p → (choices : List ℕ) (i : ℕ) → IsUnionOfReasons p i ((run p choices (start p)).agents i)

-- It is so for each agent of which holds what always does.
abbrev pub SoundMerges : Csp → Type 0
SoundMerges p = IsCsp p → (i : ℕ) (a : Agent) → Sound p i a → IsUnionOfReasons p i a
