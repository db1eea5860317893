-- The steps that one agent makes are right.
use Rattle.std.specs.Prelude.{ℕ, ◌<◌, List, Option, IfSome}
use Rattle.dcsp_defs.specs.Words.{In}
use Rattle.dcsp_defs.specs.Csp.{Csp, IsCsp, domain, count}
use Rattle.dcsp_defs.specs.declared.Step.{Step}
use Rattle.dcsp_defs.specs.Derivation.{IsRight}
use Rattle.abt_defs.specs.Agents.{Agent, Tell, Refuse, Stamped, StampedNogood, plain}
use Rattle.abt_defs.specs.Steps.{settle, receive}
use Rattle.law_agent.specs.OneAgent.{Proper, Sound}
use Rattle.law_agent.specs.Sources.{IsOfStep, AreOfSteps}

-- a step that is made is right after these steps
abbrev pub IsRightIfMade : Csp → List Step → Option Step → Type 0
IsRightIfMade p steps made = IfSome made (IsRight p steps)

-- what agent i does after these steps makes no step but a right one, whatever its number
pub record MakesRightSteps (p : Csp) (i : ℕ) (steps : List Step) (a : Agent) : Type 0 where
  -- it settles
  pub settled : (number : ℕ) → IsRightIfMade p steps (settle p i number a).step
  -- it is told a value by a higher agent
  pub told : (number k : ℕ) (s : Stamped) → k < i → In s.value (domain p k) → IsRightIfMade p steps (receive p i number a k (Tell s)).step
  -- it is sent a nogood, which is that of the step that it names
  pub refused : (number k step : ℕ) (pairs : StampedNogood) → Proper p i (plain pairs) → IsOfStep steps step (plain pairs)
      → IsRightIfMade p steps (receive p i number a k (Refuse step pairs)).step

-- It is so for each agent of which holds what always does, and whose nogoods are those of the steps that they name.
abbrev pub AgentsStepRight : Csp → Type 0
AgentsStepRight p = IsCsp p → (i : ℕ) → i < count p → (steps : List Step) (a : Agent) → Sound p i a → AreOfSteps steps a.recorded → MakesRightSteps p i steps a
