-- The clocks of a run: each agent has one, and each message carries its sender's (Lamport, CACM 21(7), 1978).
use Rattle.std.specs.Prelude.{ℕ, ◌+◌, ◌*◌, Bool, false, cond, ◌&&◌, ◌==◌, List, [], ◌∷◌, ◌++◌, map, max, Option, Some, None, if◌then◌else◌}
use Rattle.dcsp_defs.specs.Words.{update}
use Rattle.dcsp_defs.specs.Csp.{Csp}
use Rattle.abt_defs.specs.Agents.{Message}
use Rattle.abt_defs.specs.Events.{Act}
use Rattle.abt_defs.specs.Checks.{Checks, checks_of}

-- what a clock sees of an act: who acts, from whom its message came, how much it works, and to whom it sends, in order
pub record Event : Type 0 where
  pub agent : ℕ
  pub sender : Option ℕ
  pub work : ℕ
  pub receivers : List ℕ

-- the clocks of the agents, those that the messages in transit carry, the oldest first, and the greatest of the agents' so far
pub record Clocks : Type 0 where
  pub of_agent : ℕ → ℕ
  pub carried : ℕ → ℕ → List ℕ
  pub greatest : ℕ

-- before the start
abbrev pub no_clocks : Clocks
no_clocks = record { of_agent = λ i. 0; carried = λ a b. []; greatest = 0 }

-- the first of the numbers
abbrev pub first_of : List ℕ → ℕ
first_of [] = 0
first_of (x ∷ xs) = x

-- the others
abbrev pub rest_of : List ℕ → List ℕ
rest_of [] = []
rest_of (x ∷ xs) = xs

-- whether there is a sender, and it is a
abbrev pub is_from : ℕ → Option ℕ → Bool
is_from a None = false
is_from a (Some k) = a == k

-- the agent's clock, or the one that came with the message and how long that took, if this is greater
abbrev pub reached : ℕ → ℕ → Option ℕ → Clocks → ℕ
reached latency i None c = c.of_agent i
reached latency i (Some k) c = max (c.of_agent i) (first_of (c.carried k i) + latency)

-- the agent's clock after the event
abbrev pub clock_after : ℕ → Event → Clocks → ℕ
clock_after latency e c = reached latency e.agent e.sender c + e.work

-- the number once for each of the receivers that is b
abbrev pub copies : ℕ → ℕ → List ℕ → List ℕ
copies number b [] = []
copies number b (x ∷ xs) = cond (x == b) (number ∷ copies number b xs) (copies number b xs)

-- the clocks that messages from a to b carry after the event
abbrev pub carried_after : ℕ → Event → Clocks → ℕ → ℕ → List ℕ
carried_after latency e c a b =
    (if is_from a e.sender && b == e.agent then rest_of (c.carried a b) else c.carried a b) ++ (if a == e.agent then copies (clock_after latency e c) b e.receivers else [])

-- the event is made
abbrev pub tick : ℕ → Event → Clocks → Clocks
tick latency e c = record {
  of_agent = update c.of_agent e.agent (clock_after latency e c);
  carried = carried_after latency e c;
  greatest = max c.greatest (clock_after latency e c);
}

-- all are made, in order
abbrev pub ticks : ℕ → List Event → Clocks → Clocks
ticks latency [] c = c
ticks latency (e ∷ es) c = ticks latency es (tick latency e c)

-- the greatest clock of an agent in the end
abbrev pub greatest_clock : ℕ → List Event → ℕ
greatest_clock latency events = (ticks latency events no_clocks).greatest

-- ---- weights

-- how much a check of a constraint, one of a nogood and the way of a message count
pub record Weights : Type 0 where
  pub constraint : ℕ
  pub nogood : ℕ
  pub latency : ℕ

-- how much work the checks are
abbrev pub work_of : Weights → Checks → ℕ
work_of w c = w.constraint * c.constraints + w.nogood * c.nogoods

-- the sender of what came
abbrev pub sender_of : Option (ℕ × Message) → Option ℕ
sender_of None = None
sender_of (Some x) = Some x.0

-- what a clock sees of an act
abbrev pub event_of : Csp → Weights → Act → Event
event_of p w a = record { agent = a.agent; sender = sender_of a.came; work = work_of w (checks_of p a); receivers = map (λ (x : ℕ × Message). x.0) a.sent }

-- the clock of these acts
abbrev pub clock : Csp → Weights → List Act → ℕ
clock p w acts = greatest_clock w.latency (map (event_of p w) acts)

-- checks that no others wait for, of constraints and nogoods
abbrev pub all_checks : Weights
all_checks = record { constraint = 1; nogood = 1; latency = 0 }

-- the same of constraints alone
abbrev pub constraints_alone : Weights
constraints_alone = record { constraint = 1; nogood = 0; latency = 0 }

-- the longest chain of messages
abbrev pub messages_alone : Weights
messages_alone = record { constraint = 0; nogood = 0; latency = 1 }
