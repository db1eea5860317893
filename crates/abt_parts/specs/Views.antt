-- What the slots of a view stand for.
use Rattle.std.specs.Prelude.{ℕ, Bool, nat_lt, if◌then◌else◌, List, Option, Some, None, is_some, map, slice_index_or, replicate, unwrap_or}
use Rattle.std.specs.List.{range_with_len}
use Rattle.abt_defs.specs.Agents.{Stamped, View}
use Rattle.dcsp_common.specs.declared.entries.Entry.{Entry}
use Rattle.dcsp_common.specs.Entries.{item_for, AreBelow, AreRising}
use Rattle.abt_parts.specs.declared.view.StampedValue.{StampedValue}

-- a value with its stamp, as the definitions have it
abbrev pub stamped_of : StampedValue → Stamped
stamped_of told = record { value = told.value; stamp = told.stamp }

-- the same, if there is one
abbrev pub stamped_in : Option StampedValue → Option Stamped
stamped_in None = None
stamped_in (Some told) = Some (stamped_of told)

-- the slots of a view: for each higher agent its place, if it has one, with what it told, if it told anything
abbrev pub Slots : Type 0
Slots = List (Option (Option StampedValue))

-- the agent has a place
abbrev pub has_place : Slots → ℕ → Bool
has_place slots k = is_some (slice_index_or slots k None)

-- what the agent told
abbrev pub told_at : Slots → ℕ → Option StampedValue
told_at slots k = unwrap_or (slice_index_or slots k None) None

-- the view that has a slot for each higher agent; there is nothing past the last slot
abbrev pub view_of : Slots → View
view_of slots k = stamped_in (told_at slots k)

-- so many slots, each with a place in which there is nothing
abbrev pub blank : ℕ → Slots
blank agents = replicate agents (Some None)

-- so many slots without a place
abbrev pub placeless : ℕ → Slots
placeless agents = replicate agents None

-- the stamp without its value
abbrev pub stamp_in : Option Stamped → Option ℕ
stamp_in None = None
stamp_in (Some s) = Some s.stamp

-- what is newer: what was told before, if there was something, or what is told
abbrev pub newest : Option StampedValue → StampedValue → StampedValue
newest None told = told
newest (Some known) told = if nat_lt known.stamp told.stamp then told else known

-- the places of so many agents, as they stand among these
abbrev pub slots_of : ℕ → List (Entry (Option StampedValue)) → Slots
slots_of agents places = map (item_for places) (range_with_len 0 agents)

-- places of agents below a number, by agent
pub record ArePlaces (agents : ℕ) (places : List (Entry (Option StampedValue))) : Type 0 where
  pub rising : AreRising places
  pub below : AreBelow agents places
