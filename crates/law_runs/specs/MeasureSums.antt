-- How the measures of a run stand to each other.
use Rattle.std.specs.Prelude.{◌≡◌, ℕ, ◌+◌, ◌*◌, ◌<◌, ◌≤◌, List}
use Rattle.dcsp_defs.specs.Csp.{Csp, IsCsp, count}
use Rattle.abt_defs.specs.Network.{run, start}
use Rattle.abt_defs.specs.Bound.{message_bound}
use Rattle.abt_defs.specs.Events.{Act, acts}
use Rattle.abt_defs.specs.Clocks.{Weights, clock, all_checks, messages_alone}
use Rattle.abt_defs.specs.Measures.{Row, row, total}

-- the checks of one agent
abbrev pub checks_in : Row → ℕ
checks_in r = r.constraints + r.nogoods

-- checks and messages, where a message takes as long as so many checks
abbrev pub with_latency : ℕ → Weights
with_latency latency = record { constraint = 1; nogood = 1; latency = latency }

-- of these acts of a run
pub record Compares (p : Csp) (acts : List Act) (deliveries : ℕ) : Type 0 where
  -- each delivery is of one of the three kinds
  pub kinds : total p acts (λ (r : Row). r.got.ok) + total p acts (λ (r : Row). r.got.nogood) + total p acts (λ (r : Row). r.got.link) ≡ deliveries
  -- no agent does more checks than the longest chain of checks has, and that has at most all
  pub one_agent : (i : ℕ) → i < count p → checks_in (row p acts i) ≤ clock p all_checks acts
  pub all_agents : clock p all_checks acts ≤ total p acts checks_in
  -- no chain of messages is longer than the deliveries
  pub chain : clock p messages_alone acts ≤ deliveries
  -- messages that take time make checks wait by no more than the longest chain of messages takes
  pub at_least : (latency : ℕ) → clock p all_checks acts ≤ clock p (with_latency latency) acts
  pub at_most : (latency : ℕ) → clock p (with_latency latency) acts ≤ clock p all_checks acts + latency * clock p messages_alone acts

-- It is so in every run, and no chain of messages is longer than the message bound.
pub record MeasuresCompare (p : Csp) : Type 0 where
  pub compares : (choices : List ℕ) → Compares p (acts p choices) (run p choices (start p)).deliveries
  pub bounded : IsCsp p → (choices : List ℕ) → clock p messages_alone (acts p choices) ≤ message_bound p
