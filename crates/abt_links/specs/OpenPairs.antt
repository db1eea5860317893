-- How the pair of a sender and a receiver is found.
use Rattle.std.specs.Prelude.{◌≡◌, ℕ, List, [], Option, None, position, slice_index_or, unwrap_or}
use Rattle.dcsp_common.specs.declared.entries.Entry.{Entry}
use Rattle.dcsp_common.specs.Entries.{item_for}
use Rattle.abt_links.specs.Transit.{is_pair}

-- slots of receivers with the numbers of their pairs
abbrev pub Slots : Type 0
Slots = List (Entry (Option ℕ))

-- the number of the pair with a receiver
abbrev pub number_in : Slots → ℕ → Option ℕ
number_in slots to = unwrap_or (item_for slots to) None

-- the receivers of one sender
abbrev pub receivers_of : List Slots → ℕ → Slots
receivers_of senders from = slice_index_or senders from []

-- by each receiver of each sender stands the number of their pair in the order of opening, and by no other
abbrev pub AreNumbered : List (ℕ × ℕ) → List Slots → Type 0
AreNumbered pairs senders = (from to : ℕ) → number_in (receivers_of senders from) to ≡ position (is_pair from to) pairs
