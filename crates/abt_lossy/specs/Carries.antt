-- Which counts and packets of the definitions the code's are, and what its events do to them.
use Rattle.std.specs.Prelude.{◌≡◌, ℕ, ◌+◌, ◌<◌, ◌^◌, Bool, false, List, map, Option, Some, None}
use Rattle.std.specs.Ordering.{nat_cmp, ordering_then}
use Rattle.std.specs.declared.cmp.Ordering.{Ordering}
use Rattle.std.specs.Map.{lookup}
use Rattle.std.specs.BTreeMap.{is_at}
use Rattle.dcsp_defs.specs.Csp.{Csp}
use Rattle.abt_defs.specs.Agents.{Message}
use Rattle.law_runs.specs.Packets as packets
use Rattle.law_runs.specs.Packets.{coming, staying}
use Rattle.law_runs.specs.Worlds.{World, raised, send_first, acknowledge, hand_up, arrive, event}
use Rattle.law_runs.specs.Deliveries.{pair_of_packet, pair_of_event}
use Rattle.abt_lossy.specs.declared.pool.Packet.{Packet}
use Rattle.abt_lossy.specs.declared.pool.Packet.TheVariants.{Data, Acknowledgement}
use Rattle.abt_lossy.specs.declared.counts.PairCounts.{PairCounts}
use Rattle.abt_lossy.specs.declared.carrier.Carrier.{Carrier}
use Rattle.abt_lossy.specs.declared.carrier.Arrival.{Arrival}
use Rattle.abt_lossy.specs.declared.carrier.Arrival.TheVariants.{Done, Counted, Next}

-- ---- what the code's values stand for

-- the packet without its message
abbrev pub shape : packets.Packet → Packet
shape (packets.Data k i n m) = Data k i n
shape (packets.Acknowledgement k i n) = Acknowledgement k i n

-- how many were handed up; none where the pair is not kept
abbrev pub handed_up_in : Option PairCounts → ℕ
handed_up_in None = 0
handed_up_in (Some x) = x.handed_up

-- how many are acknowledged; none where the pair is not kept
abbrev pub acknowledged_in : Option PairCounts → ℕ
acknowledged_in None = 0
acknowledged_in (Some x) = x.acknowledged

-- the order of pairs: by sender, and then by receiver
abbrev pub pair_cmp : ℕ × ℕ → ℕ × ℕ → Ordering
pair_cmp x y = ordering_then (nat_cmp x.0 y.0) (nat_cmp x.1 y.1)

-- the counts of the pairs that are kept
abbrev pub Counts : Type 0
Counts = List ((ℕ × ℕ) × PairCounts)

-- those of the pair from k to i, if it is kept
abbrev pub counts_at : Counts → ℕ → ℕ → Option PairCounts
counts_at counts k i = lookup (is_at (pair_cmp (k, i))) counts

-- how many messages from k to i were handed up
abbrev pub handed_up_of : Counts → ℕ → ℕ → ℕ
handed_up_of counts k i = handed_up_in (counts_at counts k i)

-- how many of them are known to be acknowledged
abbrev pub acknowledged_of : Counts → ℕ → ℕ → ℕ
acknowledged_of counts k i = acknowledged_in (counts_at counts k i)

-- the carrier has what the world has, but for the messages
pub record Carries (w : World) (c : Carrier) : Type 0 where
  pub handed_up : handed_up_of c.counts ≡ w.handed_up
  pub acknowledged : acknowledged_of c.counts ≡ w.acknowledged
  pub pool : c.pool ≡ map shape w.pool

-- the counts are far below what a `u64` holds
pub record CountsFit (c : Carrier) : Type 0 where
  pub handed_up : (k i : ℕ) → handed_up_of c.counts k i < 2 ^ 62
  pub acknowledged : (k i : ℕ) → acknowledged_of c.counts k i < 2 ^ 62

-- ---- what events do

-- the counts that an arrival has changed
abbrev pub Changes : Arrival → Carrier → Carrier → Type 0
Changes Done old new = new.counts ≡ old.counts
Changes (Counted k i n) old new = (handed_up_of new.counts ≡ handed_up_of old.counts) × (acknowledged_of new.counts ≡ raised (acknowledged_of old.counts) k i)
Changes (Next k i n) old new = new.counts ≡ old.counts

-- The packet x has arrived in w: it hands up nothing and is done with, or its message is the next of this pair.
abbrev pub IsArrival : Csp → World → packets.Packet → Arrival → Carrier → Type 0
IsArrival p w x Done new = (pair_of_packet w (Some x) ≡ None) × Carries (arrive p x w) new
IsArrival p w x (Counted k i n) new = (pair_of_packet w (Some x) ≡ None) × (shape x ≡ Acknowledgement k i n) × Carries (arrive p x w) new
IsArrival p w x (Next k i n) new = (pair_of_packet w (Some x) ≡ Some (k, i)) × (shape x ≡ Data k i n) × Carries w new

-- It is so of every world that the carrier stands for.
abbrev pub Arrives : Packet → Arrival → Carrier → Carrier → Type 0
Arrives packet arrival old new = (p : Csp) (w : World) (x : packets.Packet) → shape x ≡ packet → w.network.refuted ≡ false → Carries w old → IsArrival p w x arrival new

-- Message n from k was handed up to i, and that refuted or not.
abbrev pub HandsUp : ℕ → ℕ → ℕ → Bool → Carrier → Carrier → Type 0
HandsUp k i n refuted old new = (p : Csp) (w : World) (m : Message) → (hand_up p k i m w).network.refuted ≡ refuted → Carries w old → Carries (acknowledge k i n (hand_up p k i m w)) new

-- The first message from k to i that is not acknowledged was sent.
abbrev pub Sends : ℕ → ℕ → Carrier → Carrier → Type 0
Sends k i old new = (w : World) (m : Message) → Carries w old → Carries (send_first k i (Some m) w) new

-- The event of the word is done, or what it hands up is the next message of this pair.
abbrev pub IsComing : Csp → World → ℕ → Arrival → Carrier → Type 0
IsComing p w word Done new = (pair_of_event word w ≡ None) × Carries (event p word w) new
IsComing p w word (Counted k i n) new = (pair_of_event word w ≡ None) × (coming word w.pool ≡ Some (packets.Acknowledgement k i n)) × Carries (event p word w) new
IsComing p w word (Next k i n) new = (pair_of_event word w ≡ Some (k, i)) × (n ≡ w.handed_up k i + 1) × Carries (record w { pool = staying word w.pool }) new

-- It is so of every world that the carrier stands for.
abbrev pub Comes : ℕ → Arrival → Carrier → Carrier → Type 0
Comes word arrival old new = (p : Csp) (w : World) → w.network.refuted ≡ false → Carries w old → IsComing p w word arrival new
