-- What events hand up: the pairs, the messages, and their numbers as deliveries over reliable links.
use Rattle.std.specs.Prelude.{ℕ, ◌+◌, ◌%◌, ◌&&◌, List, [], ◌∷◌, ◌++◌, position, Option, Some, None, ◌==◌, if◌then◌else◌, option_to_list}
use Rattle.dcsp_defs.specs.Csp.{Csp}
use Rattle.abt_defs.specs.Agents.{Message}
use Rattle.abt_defs.specs.Network.{Network, ready}
use Rattle.law_runs.specs.Packets.{Packet, Data, Acknowledgement, coming}
use Rattle.law_runs.specs.Worlds.{World, reliable, event}

-- ---- pairs and numbers

-- the pair whose message is handed up when this packet arrives
abbrev pub pair_of_packet : World → Option Packet → Option (ℕ × ℕ)
pair_of_packet w None = None
pair_of_packet w (Some (Data k i n m)) = if n == w.handed_up k i + 1 then Some (k, i) else None
pair_of_packet w (Some (Acknowledgement k i n)) = None

-- the pair whose message the event hands up
abbrev pub pair_of_event : ℕ → World → Option (ℕ × ℕ)
pair_of_event word w = if word % 4 == 0 then None else pair_of_packet w (coming word w.pool)

-- the number of the pair among those whose list is not empty
abbrev pub number_of : Csp → Network → Option (ℕ × ℕ) → Option ℕ
number_of p net None = None
number_of p net (Some pair) = position (λ (x : ℕ × ℕ). pair.0 == x.0 && pair.1 == x.1) (ready p net)

-- the number that the list which the event hands up from has before the event
abbrev pub delivered : Csp → ℕ → World → Option ℕ
delivered p word w = number_of p (reliable w) (pair_of_event word w)

-- the numbers of all that the events hand up
abbrev pub numbers : Csp → List ℕ → World → List ℕ
numbers p [] w = []
numbers p (word ∷ words) w = if w.network.refuted then [] else option_to_list (delivered p word w) ++ numbers p words (event p word w)

-- ---- messages

-- the message in the packet, if there is one
abbrev pub message_in : Option Packet → List Message
message_in None = []
message_in (Some (Data k i n m)) = m ∷ []
message_in (Some (Acknowledgement k i n)) = []

-- the packet's message, where the pair is that from a to b
abbrev pub message_on : Option (ℕ × ℕ) → Option Packet → ℕ → ℕ → List Message
message_on None x a b = []
message_on (Some pair) x a b = if a == pair.0 && b == pair.1 then message_in x else []

-- all messages that the events hand up from a to b, in order
abbrev pub handed_messages : Csp → List ℕ → World → ℕ → ℕ → List Message
handed_messages p [] w a b = []
handed_messages p (word ∷ words) w a b =
    if w.network.refuted then [] else message_on (pair_of_event word w) (coming word w.pool) a b ++ handed_messages p words (event p word w) a b
