-- What happened in a run, as facts.
use Rattle.std.specs.Prelude.{ℕ, ℤ, List, Option}
use Rattle.dcsp_defs.specs.declared.Reason.{Reason}
use Rattle.abt_defs.specs.Runs.{Cargo}

-- a value that is ruled out, with the first reason against it
pub record RuledOut : Type 0 where
  pub value : ℤ
  pub reason : Reason

-- what an agent does
pub data Fact : Type 0 where
  Receives : (from : ℕ) → (cargo : Cargo) → Fact
  Knows : (agent : ℕ) → (value : ℤ) → Fact  -- this agent's value enters its view
  Forgets : (step : ℕ) → Fact  -- the recorded nogood of this step is dropped
  Keeps : (step : ℕ) → Fact  -- the nogood delivered is recorded
  Declines : (step : ℕ) → Fact  -- or it is not
  Out : (values : List RuledOut) → Fact  -- these values are ruled out now, and no others
  Takes : (value : ℤ) → Fact
  Makes : (step : ℕ) → Fact  -- it makes the step with this number
  Sends : (to : ℕ) → (cargo : Cargo) → Fact

-- a fact, with the number of its event, which is 0 at the start, and its agent; there is none where a constraint without variables makes a step
pub record Line : Type 0 where
  pub event : ℕ
  pub agent : Option ℕ
  pub fact : Fact
