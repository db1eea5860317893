-- The agents, the packets between them, and what an event does.
use Rattle.std.specs.Prelude.{ℕ, ◌+◌, ◌/◌, ◌%◌, nat_lt, nat_le, List, [], ◌∷◌, ◌++◌, filter, length, slice_get, drop, Option, Some, None, ◌==◌, if◌then◌else◌}
use Rattle.dcsp_defs.specs.Words.{update}
use Rattle.dcsp_defs.specs.Csp.{Csp, count}
use Rattle.abt_defs.specs.Agents.{Message}
use Rattle.abt_defs.specs.Steps.{receive}
use Rattle.abt_defs.specs.Network.{Network, acted, next_number, pairs, start}
use Rattle.law_runs.specs.Packets.{Packet, Data, Acknowledgement, coming, staying}

-- the agents, what the two ends of each pair have counted, and the packets on their way
pub record World : Type 0 where
  pub network : Network  -- the agents, and in the list of each pair all messages that were sent: none leaves it
  pub handed_up : ℕ → ℕ → ℕ  -- from the first to the second: how many the receiver has handed up
  pub acknowledged : ℕ → ℕ → ℕ  -- how many of these the sender knows to be acknowledged
  pub pool : List Packet

-- the agents have started, nothing is handed up, and no packet is on its way
abbrev pub begin : Csp → World
begin p = record { network = start p; handed_up = λ k i. 0; acknowledged = λ k i. 0; pool = [] }

-- the world as a network of reliable links, in whose lists are the messages that were sent and not handed up
abbrev pub reliable : World → Network
reliable w = record w.network { links = λ k i. drop (w.handed_up k i) (w.network.links k i) }

-- one more at this pair
abbrev pub raised : (ℕ → ℕ → ℕ) → ℕ → ℕ → ℕ → ℕ → ℕ
raised counts k i = update counts k (update (counts k) i (counts k i + 1))

-- ---- sending

-- the pairs with a message that the sender does not know to be acknowledged, by sender and then by receiver
abbrev pub unacknowledged : Csp → World → List (ℕ × ℕ)
unacknowledged p w = filter (λ (x : ℕ × ℕ). nat_lt (w.acknowledged x.0 x.1) (length (w.network.links x.0 x.1))) (pairs (count p))

-- a packet more, as the last of the pool
abbrev pub add_packet : Packet → World → World
add_packet x w = record w { pool = w.pool ++ x ∷ [] }

-- the first message that is not acknowledged goes from k to i, if there is one
abbrev pub send_first : ℕ → ℕ → Option Message → World → World
send_first k i None w = w
send_first k i (Some m) w = add_packet (Data k i (w.acknowledged k i + 1) m) w

-- on this pair, if there is one
abbrev pub send_on : Option (ℕ × ℕ) → World → World
send_on None w = w
send_on (Some x) w = send_first x.0 x.1 (slice_get (w.network.links x.0 x.1) (w.acknowledged x.0 x.1)) w

-- on such a pair number c modulo their number
abbrev pub send : Csp → ℕ → World → World
send p c w = send_on (slice_get (unacknowledged p w) (c % length (unacknowledged p w))) w

-- ---- arriving

-- i acknowledges number n from k, unless the run was refuted
abbrev pub acknowledge : ℕ → ℕ → ℕ → World → World
acknowledge k i n w = if w.network.refuted then w else add_packet (Acknowledgement k i n) w

-- the message from k is handed up to i, which makes its step
abbrev pub hand_up : Csp → ℕ → ℕ → Message → World → World
hand_up p k i m w = record w {
  network = acted i (receive p i (next_number w.network) (w.network.agents i) k m) (record w.network { deliveries = w.network.deliveries + 1 });
  handed_up = raised w.handed_up k i;
}

-- What a packet does that arrives. The next data is handed up and acknowledged; data that was handed up before is acknowledged again; later data is dropped. An acknowledgement counts where it is of the first number that is not acknowledged.
abbrev pub arrive : Csp → Packet → World → World
arrive p (Data k i n m) w =
    if n == w.handed_up k i + 1
    then acknowledge k i n (hand_up p k i m w)
    else if nat_le n (w.handed_up k i) then acknowledge k i n w else w
arrive p (Acknowledgement k i n) w = if n == w.acknowledged k i + 1 then record w { acknowledged = raised w.acknowledged k i } else w

-- the packet arrives, if there is one
abbrev pub come : Csp → Option Packet → World → World
come p None w = w
come p (Some x) w = arrive p x w

-- ---- events

-- A word has a kind, its remainder by 4: 0 sends, 1 delivers, 2 delivers and repeats, 3 loses. Its quotient says on which pair, or which packet of the pool.
abbrev pub event : Csp → ℕ → World → World
event p word w = if word % 4 == 0 then send p (word / 4) w else come p (coming word w.pool) (record w { pool = staying word w.pool })

-- the world after the events of these words in order, which a refutation ends
abbrev pub after : Csp → List ℕ → World → World
after p [] w = w
after p (word ∷ words) w = if w.network.refuted then w else after p words (event p word w)
