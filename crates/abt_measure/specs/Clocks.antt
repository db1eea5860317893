-- What the code's clocks stand for.
use Rattle.std.specs.Prelude.{◌≡◌, ℕ, List, Option, slice_index, ◌==◌, ◌&&◌, if◌then◌else◌}
use Rattle.abt_defs.specs.Clocks as clocks
use Rattle.abt_defs.specs.Clocks.{Clocks, is_from, rest_of}
use Rattle.abt_measure.specs.declared.carried.Carried.{Carried}
use Rattle.abt_measure.specs.declared.clock.Weights.{Weights}
use Rattle.abt_measure.specs.Carrying.{clocks_on}

-- the weights of the definitions
abbrev pub as_weights : Weights → clocks.Weights
as_weights w = record { constraint = w.constraint; nogood = w.nogood; latency = w.latency }

-- what callers see of a run's clock
pub record ClockState : Type 0 where
  pub weights : Weights
  pub agents : List ℕ
  pub lists : List (List Carried)
  pub greatest : ℕ

-- the clocks of the definitions
abbrev pub clocks_of : ClockState → Clocks
clocks_of s = record { of_agent = slice_index s.agents; carried = clocks_on s.lists; greatest = s.greatest }

-- the message from the sender, if there is one, is taken
pub record IsTaken (sender : Option ℕ) (agent : ℕ) (old new : ClockState) : Type 0 where
  pub weights : new.weights ≡ old.weights
  pub agents : new.agents ≡ old.agents
  pub greatest : new.greatest ≡ old.greatest
  pub lists : (a b : ℕ) → clocks_on new.lists a b ≡ (if is_from a sender && b == agent then rest_of (clocks_on old.lists a b) else clocks_on old.lists a b)
