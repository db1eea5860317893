-- What holds of each network that a run reaches.
use Rattle.dcsp_defs.specs.declared.nogood.Pair.{Pair}
use Rattle.std.proofs.Common.{◌≡◌, ℕ, suc, ◌+◌, ◌<◌, ◌≤◌, Bool, true, false, ◌⊎◌, List, [], ◌∷◌, Option, Some, ℤ}
use Rattle.dcsp_defs.specs.Words.{In}
use Rattle.dcsp_defs.specs.Csp.{Csp, domain, count}
use Rattle.dcsp_defs.specs.Pairs.{value_at}
use Rattle.abt_defs.specs.Agents.{Agent, Message, Tell, Refuse, AddLink, Record, Stamped, StampedNogood, plain, lowest, known}
use Rattle.abt_defs.specs.Reasons.{ruled_out}
use Rattle.abt_defs.specs.Network.{Network}
pub use Rattle.law_agent.specs.OneAgent.{Proper, Distinct, Agreeing, Sound}

-- how many link requests
abbrev pub asks : List Message → ℕ
asks [] = 0
asks (Tell s ∷ ms) = asks ms
asks (Refuse step pairs ∷ ms) = asks ms
asks (AddLink ∷ ms) = suc (asks ms)

abbrev pub bit : Bool → ℕ
bit true = 1
bit false = 0

-- something at least this new
abbrev pub AtLeast : Option Stamped → ℕ → Type 0
AtLeast o n = (t : Stamped) × (o ≡ Some t) × (n ≤ t.stamp)

-- a value that the agent has or had
pub record Dated (a : Agent) (s : Stamped) : Type 0 where
  pub positive : 0 < s.stamp
  pub most : s.stamp ≤ a.stamp
  pub same : s.stamp ≡ a.stamp → a.value ≡ Some s.value

-- what may be on the list from k to j
abbrev pub Fine : Csp → ℕ → ℕ → Message → Type 0
Fine p k j (Tell s) = (k < count p) × In s.value (domain p k)
Fine p k j (Refuse step pairs) = Proper p j (plain pairs)
Fine p k j AddLink = k < count p

-- each value in the message is one that its agent has or had
abbrev pub IsDated : Network → ℕ → Message → Type 0
IsDated net k (Tell s) = Dated (net.agents k) s
IsDated net k (Refuse step pairs) = (y : ℕ × Stamped) → In y pairs → Dated (net.agents y.0) y.1
IsDated net k AddLink = Unit {0}

-- the agent has a value that is not ruled out
pub record Chosen (p : Csp) (i : ℕ) (a : Agent) : Type 0 where
  pub value : ℤ
  pub is : a.value ≡ Some value
  pub free : ruled_out p i (known a) a.recorded value ≡ false

-- some agent that the nogood names has taken a value since
pub record Passed (net : Network) (pairs : StampedNogood) : Type 0 where
  pub pair : ℕ × Stamped
  pub named : In pair pairs
  pub later : pair.1.stamp < (net.agents pair.0).stamp

-- a nogood that agent i sees, with its stamps: it is on its way to its lowest agent, or that agent waits, or it has passed
pub record Backed (net : Network) (i : ℕ) : Type 0 where
  pub first : ℕ × Stamped
  pub rest : StampedNogood
  pub step : ℕ
  pub higher : (y : ℕ × Stamped) → In y (first ∷ rest) → y.0 < i
  pub seen : (y : ℕ × Stamped) → In y (first ∷ rest) → (net.agents i).view y.0 ≡ Some y.1
  pub there : In (Refuse step (first ∷ rest)) (net.links i (lowest first rest)) ⊎ (((net.agents (lowest first rest)).waits ≡ true) ⊎ Passed net (first ∷ rest))

-- the agents below s have started
pub record Kept (p : Csp) (s : ℕ) (net : Network) : Type 0 where
  pub present : (k i : ℕ) (v : ℤ) → (net.agents k).tells i ≡ true → (net.agents k).value ≡ Some v
      → ((net.agents i).view k ≡ Some (record { value = v; stamp = (net.agents k).stamp })) ⊎ In (Tell (record { value = v; stamp = (net.agents k).stamp })) (net.links k i)
  pub asked : (i k : ℕ) → asks (net.links i k) + bit ((net.agents k).tells i) ≡ bit ((net.agents i).linked k)
  pub tells_first : (k i : ℕ) (s : Stamped) → In (Tell s) (net.links k i) → (net.agents k).tells i ≡ true
  pub seen : (i k : ℕ) (s : Stamped) → (net.agents i).view k ≡ Some s → (net.agents i).linked k ≡ true
  pub fine : (k j : ℕ) (m : Message) → In m (net.links k j) → Fine p k j m
  pub dated_views : (i k : ℕ) (s : Stamped) → (net.agents i).view k ≡ Some s → Dated (net.agents k) s
  pub dated : (k j : ℕ) (m : Message) → In m (net.links k j) → IsDated net k m
  pub sound : (i : ℕ) → Sound p i (net.agents i)
  pub backed : (i : ℕ) → (net.agents i).waits ≡ true → Backed net i
  pub chosen : (i : ℕ) → i < s → (net.agents i).waits ≡ false → Chosen p i (net.agents i)

-- ---- what one agent does: from each sender k it takes the messages came k, and to each j it sends the messages went j

-- k's value came in a nogood, and k is linked
pub record Brought (b : Agent) (came : ℕ → List Message) (k : ℕ) (s : Stamped) : Type 0 where
  pub sender : ℕ
  pub step : ℕ
  pub pairs : StampedNogood
  pub there : In (Refuse step pairs) (came sender)
  pub named : In (k, s) pairs
  pub linked : b.linked k ≡ true

-- the agent has learned the pairs, and where its view has them, it has recorded a nogood for its value
pub record Heeds (i : ℕ) (b : Agent) (pairs : StampedNogood) : Type 0 where
  pub covers : (y : ℕ × Stamped) → In y pairs → y.0 < i → AtLeast (b.view y.0) y.1.stamp
  pub kept : ((y : Pair) → In y (plain pairs) → y.var < i → known b y.var ≡ Some y.value)
      → (v : ℤ) → value_at (plain pairs) i ≡ Some v → (x : Record) × In x b.recorded × (value_at x.pairs i ≡ Some v)

-- the agent sends a nogood that it sees
pub record Sends (i : ℕ) (b : Agent) (went : ℕ → List Message) : Type 0 where
  pub first : ℕ × Stamped
  pub rest : StampedNogood
  pub step : ℕ
  pub higher : (y : ℕ × Stamped) → In y (first ∷ rest) → y.0 < i
  pub seen : (y : ℕ × Stamped) → In y (first ∷ rest) → b.view y.0 ≡ Some y.1
  pub goes : In (Refuse step (first ∷ rest)) (went (lowest first rest))

pub record Acts (p : Csp) (i : ℕ) (a b : Agent) (came went : ℕ → List Message) : Type 0 where
  pub view_from : (k : ℕ) (s : Stamped) → b.view k ≡ Some s → (a.view k ≡ Some s) ⊎ (In (Tell s) (came k) ⊎ Brought b came k s)
  pub view_up : (k : ℕ) (s : Stamped) → a.view k ≡ Some s → AtLeast (b.view k) s.stamp
  pub hears : (k : ℕ) (s : Stamped) → In (Tell s) (came k) → AtLeast (b.view k) s.stamp
  pub heeds : (k step : ℕ) (pairs : StampedNogood) → In (Refuse step pairs) (came k) → Heeds i b pairs
  pub linked : (k : ℕ) → bit (b.linked k) ≡ asks (went k) + bit (a.linked k)
  pub tells : (j : ℕ) → bit (b.tells j) ≡ asks (came j) + bit (a.tells j)
  pub ages : ((b.stamp ≡ a.stamp) × (b.value ≡ a.value)) ⊎ (a.stamp < b.stamp)
  pub told : (j : ℕ) (v : ℤ) → b.tells j ≡ true → b.value ≡ Some v
      → ((a.tells j ≡ true) × (a.value ≡ Some v) × (b.stamp ≡ a.stamp)) ⊎ In (Tell (record { value = v; stamp = b.stamp })) (went j)
  pub announced : (j : ℕ) (s : Stamped) → In (Tell s) (went j) → (b.tells j ≡ true) × (b.value ≡ Some s.value) × (s.stamp ≡ b.stamp)
  pub sees : (j step : ℕ) (pairs : StampedNogood) → In (Refuse step pairs) (went j) → (y : ℕ × Stamped) → In y pairs → b.view y.0 ≡ Some y.1
  pub fine : (j : ℕ) (m : Message) → In m (went j) → Fine p i j m
  pub why : b.waits ≡ true → ((a.waits ≡ true) × ((k : ℕ) → b.view k ≡ a.view k)) ⊎ Sends i b went
  pub wakes : a.waits ≡ true → (b.waits ≡ true) ⊎ (a.stamp < b.stamp)
