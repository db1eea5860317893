-- What holds of every network that a run reaches and that is not refuted.
use Rattle.dcsp_defs.specs.declared.nogood.Pair.{Pair}
use Rattle.std.specs.Prelude.{◌≡◌, ℕ, suc, ◌<◌, ◌≤◌, true, false, ◌⊎◌, List, [], ◌∷◌, Option, Some, ℤ}
use Rattle.dcsp_defs.specs.Words.{In}
use Rattle.dcsp_defs.specs.Csp.{Csp, IsCsp, domain, count}
use Rattle.dcsp_defs.specs.Pairs.{value_at}
use Rattle.abt_defs.specs.Agents.{Message, Tell, Refuse, AddLink, Record, Stamped, StampedNogood, lowest, known}
use Rattle.abt_defs.specs.Reasons.{ruled_out}
use Rattle.abt_defs.specs.Network.{Network, run, start}

-- the last announcement of the list, or else what is known
abbrev pub last_told : List Message → Option Stamped → Option Stamped
last_told [] known = known
last_told (Tell s ∷ ms) known = last_told ms (Some s)
last_told (Refuse step pairs ∷ ms) known = last_told ms known
last_told (AddLink ∷ ms) known = last_told ms known

-- how many link requests
abbrev pub requests : List Message → ℕ
requests [] = 0
requests (Tell s ∷ ms) = requests ms
requests (Refuse step pairs ∷ ms) = requests ms
requests (AddLink ∷ ms) = suc (requests ms)

-- where a stamped value of agent k may stand: in a view, on its way, in a nogood on its way, or with k itself
pub data Held (net : Network) (k : ℕ) (s : Stamped) : Type 0 where
  In_view : (i : ℕ) → (net.agents i).view k ≡ Some s → Held net k s
  On_list : (i : ℕ) → In (Tell s) (net.links k i) → Held net k s
  In_nogood : (i j step : ℕ) (pairs : StampedNogood) → In (Refuse step pairs) (net.links i j) → In (k, s) pairs → Held net k s
  Own : (net.agents k).value ≡ Some s.value → s.stamp ≡ (net.agents k).stamp → Held net k s

-- a nogood that a waiting agent sees, with its stamps
pub record Witness (net : Network) (i : ℕ) : Type 0 where
  pub first : ℕ × Stamped
  pub rest : StampedNogood
  pub step : ℕ
  pub higher : (y : ℕ × Stamped) → In y (first ∷ rest) → y.0 < i
  pub seen : (y : ℕ × Stamped) → In y (first ∷ rest) → (net.agents i).view y.0 ≡ Some y.1
  -- it is on its way; or its lowest agent waits with the stamp that it names; or some agent that it names has a later one
  pub state : In (Refuse step (first ∷ rest)) (net.links i (lowest first rest))
      ⊎ (((net.agents (lowest first rest)).waits ≡ true) × (s : Stamped) × In (lowest first rest, s) (first ∷ rest) × (s.stamp ≡ (net.agents (lowest first rest)).stamp))
      ⊎ (y : ℕ × Stamped) × In y (first ∷ rest) × (y.1.stamp < (net.agents y.0).stamp)

-- what every reached network that is not refuted keeps
pub record Invariants (p : Csp) (net : Network) : Type 0 where
  -- links and views
  pub present : (k i : ℕ) (v : ℤ) → (net.agents k).tells i ≡ true → (net.agents k).value ≡ Some v → last_told (net.links k i) ((net.agents i).view k) ≡ Some (record { value = v; stamp = (net.agents k).stamp })
  pub asked : (i k : ℕ) → (net.agents i).linked k ≡ true → (net.agents k).tells i ≡ false → requests (net.links i k) ≡ 1
  pub not_asked : (i k : ℕ) → ((net.agents i).linked k ≡ false) ⊎ ((net.agents k).tells i ≡ true) → requests (net.links i k) ≡ 0
  -- stamps
  pub not_later : (k : ℕ) (s : Stamped) → Held net k s → s.stamp ≤ (net.agents k).stamp
  pub positive : (k : ℕ) (s : Stamped) → Held net k s → 0 < s.stamp
  pub same_value : (k : ℕ) (s t : Stamped) → Held net k s → Held net k t → s.stamp ≡ t.stamp → s.value ≡ t.value
  -- who is linked
  pub tells_linked : (k i : ℕ) → (net.agents k).tells i ≡ true → (net.agents i).linked k ≡ true
  pub view_linked : (i k : ℕ) (s : Stamped) → (net.agents i).view k ≡ Some s → (net.agents i).linked k ≡ true
  pub record_linked : (i : ℕ) (x : Record) → In x (net.agents i).recorded → (y : Pair) → In y x.pairs → (y.var ≡ i) ⊎ ((net.agents i).linked y.var ≡ true)
  pub announce_told : (k i : ℕ) (s : Stamped) → In (Tell s) (net.links k i) → (net.agents k).tells i ≡ true
  pub linked_higher : (i k : ℕ) → (net.agents i).linked k ≡ true → k < i
  -- waiting agents
  pub witness : (i : ℕ) → (net.agents i).waits ≡ true → Witness net i
  pub chosen : (i : ℕ) → i < count p → (net.agents i).waits ≡ false → (v : ℤ) × ((net.agents i).value ≡ Some v) × In v (domain p i) × (ruled_out p i (known (net.agents i)) (net.agents i).recorded v ≡ false)
  -- recorded nogoods
  pub lowest_here : (i : ℕ) (x : Record) → In x (net.agents i).recorded → (y : Pair) → In y x.pairs → y.var ≤ i
  pub own_value : (i : ℕ) (x : Record) → In x (net.agents i).recorded → (v : ℤ) × (value_at x.pairs i ≡ Some v) × In v (domain p i)
  pub as_seen : (i : ℕ) (x : Record) → In x (net.agents i).recorded → (y : Pair) → In y x.pairs → (y.var ≡ i) ⊎ (known (net.agents i) y.var ≡ Some y.value)

-- Every network that a run reaches and that is not refuted keeps the invariants.
abbrev pub InvariantsHold : Csp → Type 0
InvariantsHold p = IsCsp p → (choices : List ℕ) → (run p choices (start p)).refuted ≡ false → Invariants p (run p choices (start p))
