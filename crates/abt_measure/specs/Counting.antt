-- What is counted stands for these acts of a run.
use Rattle.std.specs.Prelude.{◌≡◌, ℕ, ◌<◌, List, map, length, Option, Some, None, slice_index_or}
use Rattle.dcsp_defs.specs.Csp.{Csp, count}
use Rattle.abt_defs.specs.Agents.{Message}
use Rattle.abt_defs.specs.Events.{Act}
use Rattle.abt_defs.specs.Checks.{checks_of}
use Rattle.abt_defs.specs.Clocks as clocks
use Rattle.abt_defs.specs.Clocks.{event_of, no_clocks, ticks}
use Rattle.abt_defs.specs.Measures.{row}
use Rattle.abt_parts.specs.declared.message.SentTo.{SentTo}
use Rattle.abt_parts.specs.declared.message.MessageKind.{MessageKind}
use Rattle.abt_parts.specs.Messages.{kind_of, told_sent}
use Rattle.abt_parts.specs.declared.checks.Checks.{Checks}
use Rattle.abt_parts.specs.Checked.{as_checks}
use Rattle.abt_measure.specs.declared.row.Row.{Row}
use Rattle.abt_measure.specs.declared.counts.Came.{Came}
use Rattle.abt_measure.specs.declared.counts.Deed.{Deed}
use Rattle.abt_measure.specs.Clocks.{ClockState, as_weights, clocks_of}
use Rattle.abt_measure.specs.Rows.{as_row, blank_row}

-- what is told of the message that came
abbrev pub told_came : Option (ℕ × Message) → Option Came
told_came None = None
told_came (Some x) = Some (record { from = x.0; kind = kind_of x.1 })

-- the sender, and the kind
abbrev pub sender_in : Option Came → Option ℕ
sender_in None = None
sender_in (Some c) = Some c.from

abbrev pub kind_in : Option Came → Option MessageKind
kind_in None = None
kind_in (Some c) = Some c.kind

-- what is told of an act
pub record IsAct (p : Csp) (a : Act) (agent : ℕ) (came : Option Came) (checks : Checks) (recorded : ℕ) (sent : List SentTo) : Type 0 where
  pub agent_is : agent ≡ a.agent
  pub came_is : came ≡ told_came a.came
  pub checks_are : as_checks checks ≡ checks_of p a
  pub recorded_is : recorded ≡ length a.after.recorded
  pub sent_is : sent ≡ map told_sent a.sent

-- the same, of what the code has of it
abbrev pub IsDeed : Csp → Act → Deed → Type 0
IsDeed p a deed = IsAct p a deed.agent deed.came deed.checks deed.recorded deed.sent.now

-- the clock is that of these acts
pub record IsClock (p : Csp) (w : clocks.Weights) (acts : List Act) (s : ClockState) : Type 0 where
  pub weights : as_weights s.weights ≡ w
  pub long : length s.agents ≡ count p
  pub clocks : clocks_of s ≡ ticks w.latency (map (event_of p w) acts) no_clocks

-- the row of agent i
abbrev pub row_at : List Row → ℕ → Row
row_at rows i = slice_index_or rows i blank_row

-- the rows are those of these acts
pub record AreRows (p : Csp) (acts : List Act) (rows : List Row) : Type 0 where
  pub long : length rows ≡ count p
  pub each : (i : ℕ) → i < count p → as_row (row_at rows i) ≡ row p acts i
