-- What the counts of each pair and the packets of the pool say.
use Rattle.std.specs.Prelude.{◌≡◌, ℕ, ◌+◌, ◌-◌, ◌<◌, ◌≤◌, length, slice_get, Some}
use Rattle.dcsp_defs.specs.Words.{In}
use Rattle.dcsp_defs.specs.Csp.{Csp, count}
use Rattle.abt_defs.specs.Agents.{Message}
use Rattle.law_runs.specs.Packets.{Packet, Data, Acknowledgement}
use Rattle.law_runs.specs.Worlds.{World}

-- data of number n between two agents of the problem is message number n of those that were sent, and at most the next to be handed up
pub record IsRightData (p : Csp) (w : World) (k i n : ℕ) (m : Message) : Type 0 where
  pub sender : k < count p
  pub receiver : i < count p
  pub from_one : 0 < n
  pub sent : n ≤ length (w.network.links k i)
  pub not_later : n ≤ w.handed_up k i + 1
  pub message : slice_get (w.network.links k i) (n - 1) ≡ Some m

-- what is acknowledged was handed up
pub record IsRightAcknowledgement (p : Csp) (w : World) (k i n : ℕ) : Type 0 where
  pub sender : k < count p
  pub receiver : i < count p
  pub from_one : 0 < n
  pub handed_up : n ≤ w.handed_up k i

-- the packet says what is so
abbrev pub IsRight : Csp → World → Packet → Type 0
IsRight p w (Data k i n m) = IsRightData p w k i n m
IsRight p w (Acknowledgement k i n) = IsRightAcknowledgement p w k i n

-- No more is acknowledged than was handed up, no more is handed up than was sent, and every packet is right.
pub record Facts (p : Csp) (w : World) : Type 0 where
  pub acknowledged : (k i : ℕ) → w.acknowledged k i ≤ w.handed_up k i
  pub handed_up : (k i : ℕ) → w.handed_up k i ≤ length (w.network.links k i)
  pub packets : (x : Packet) → In x w.pool → IsRight p w x
