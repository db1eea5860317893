-- Messages in transit, each by its sender and the clock that it carries.
use Rattle.std.specs.Prelude.{ℕ, ◌<◌, ◌≢◌, List, [], ◌∷◌, cond, ◌==◌, map, slice_index_or, Option, if◌then◌else◌}
use Rattle.abt_defs.specs.Clocks.{copies, Event}
use Rattle.abt_parts.specs.declared.message.SentTo.{SentTo}
use Rattle.abt_measure.specs.declared.carried.Carried.{Carried}

-- the clocks of those from this sender, in order
abbrev pub clocks_from : ℕ → List Carried → List ℕ
clocks_from a [] = []
clocks_from a (x ∷ xs) = cond (a == x.from) (x.clock ∷ clocks_from a xs) (clocks_from a xs)

-- the message at a place
abbrev pub carried_at : List Carried → ℕ → Carried
carried_at xs i = slice_index_or xs i (record { from = 0; clock = 0 })

-- none before this place is from there
abbrev pub NoneBefore : ℕ → List Carried → ℕ → Type 0
NoneBefore from xs i = (k : ℕ) → k < i → (carried_at xs k).from ≢ from

-- the clocks that the messages from a to b carry
abbrev pub clocks_on : List (List Carried) → ℕ → ℕ → List ℕ
clocks_on lists a b = clocks_from a (slice_index_or lists b [])

-- the receivers of what was sent
abbrev pub receivers_of : List SentTo → List ℕ
receivers_of sent = map (λ (x : SentTo). x.to) sent

-- what a clock sees of an act in which this was sent
abbrev pub event_with : ℕ → Option ℕ → ℕ → List SentTo → Event
event_with agent sender work sent = record { agent = agent; sender = sender; work = work; receivers = receivers_of sent }

-- what sending with this clock adds from a to b
abbrev pub sent_with : ℕ → ℕ → List ℕ → ℕ → ℕ → List ℕ
sent_with sender clock receivers a b = if a == sender then copies clock b receivers else []
