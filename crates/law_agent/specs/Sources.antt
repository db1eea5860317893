-- Which step a nogood is of.
use Rattle.std.specs.Prelude.{◌≡◌, ℕ, List, Some}
use Rattle.dcsp_defs.specs.Words.{In}
use Rattle.dcsp_defs.specs.Csp.{Nogood}
use Rattle.dcsp_defs.specs.declared.Step.{Step}
use Rattle.dcsp_defs.specs.Derivation.{step_at}
use Rattle.abt_defs.specs.Agents.{Record}

-- the nogood is that of the step with this number
abbrev pub IsOfStep : List Step → ℕ → Nogood → Type 0
IsOfStep steps number pairs = (s : Step) × (step_at steps number ≡ Some s) × (s.nogood ≡ pairs)

-- each of the recorded nogoods is that of the step that it names
abbrev pub AreOfSteps : List Step → List Record → Type 0
AreOfSteps steps recorded = (x : Record) → In x recorded → IsOfStep steps x.step x.pairs
