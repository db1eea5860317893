-- The packets on their way, and which of them a word of an event speaks of.
use Rattle.std.specs.Prelude.{ℕ, ◌/◌, ◌%◌, List, length, slice_get, Option, None, ◌==◌, if◌then◌else◌}
use Rattle.std.specs.List.{remove}
use Rattle.abt_defs.specs.Agents.{Message}

-- Data is a message with its number among all that the sender has sent to the receiver, counted from 1. Its acknowledgement has the same pair and number, and goes from the receiver back to the sender.
pub data Packet : Type 0 where
  Data : (sender receiver number : ℕ) → (message : Message) → Packet
  Acknowledgement : (sender receiver number : ℕ) → Packet

-- the place in the pool that the word speaks of
abbrev pub place : {X : Type 0} → ℕ → List X → ℕ
place word pool = (word / 4) % length pool

-- the packet that arrives, which is none where the word is of the kind 3, that loses, or the pool is empty
abbrev pub coming : {X : Type 0} → ℕ → List X → Option X
coming word pool = if word % 4 == 3 then None else slice_get pool (place word pool)

-- what stays in the pool, which closes up: all of it where the word is of the kind 2, that repeats
abbrev pub staying : {X : Type 0} → ℕ → List X → List X
staying word pool = if word % 4 == 2 then pool else remove pool (place word pool)
