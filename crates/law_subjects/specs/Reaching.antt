-- What agents hold in a network that a run reaches.
use Rattle.std.specs.Prelude.{◌≡◌, ℕ, ◌<◌, ℤ, List, Some}
use Rattle.dcsp_defs.specs.declared.nogood.Pair.{Pair}
use Rattle.dcsp_defs.specs.Words.{In}
use Rattle.dcsp_defs.specs.Csp.{Csp, IsCsp, domain, count}
use Rattle.dcsp_defs.specs.Derivation.{IsKnownPair}
use Rattle.abt_defs.specs.Agents.{Record, Stamped}
use Rattle.abt_defs.specs.Network.{Network, run, start}

-- values, views and recorded nogoods have values of the domains alone
pub record HoldsValuesOfDomains (p : Csp) (net : Network) : Type 0 where
  pub values : (i : ℕ) (v : ℤ) → (net.agents i).value ≡ Some v → In v (domain p i)
  pub views : (i k : ℕ) (s : Stamped) → (net.agents i).view k ≡ Some s → (k < count p) × In s.value (domain p k)
  pub nogoods : (i : ℕ) (x : Record) → In x (net.agents i).recorded → (y : Pair) → In y x.pairs → IsKnownPair p y

-- So it is in each network that a run reaches, refuted or not.
abbrev pub ReachedHoldValuesOfDomains : Csp → Type 0
ReachedHoldValuesOfDomains p = IsCsp p → (choices : List ℕ) → HoldsValuesOfDomains p (run p choices (start p))
