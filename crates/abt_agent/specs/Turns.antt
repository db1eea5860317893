-- What a turn tells.
use Rattle.std.specs.Prelude.{◌≡◌, ◌≢◌, ◌+◌, [], Some, None}
use Rattle.dcsp_defs.specs.declared.Step.{Step}
use Rattle.abt_defs.specs.Agents.{Agent}
use Rattle.abt_defs.specs.Steps.{Outcome}
use Rattle.abt_agent.specs.declared.Turn.{Turn}
use Rattle.abt_agent.specs.declared.Turn.TheVariants.{Quiet, Announced, Derived, Empty}
use Rattle.abt_agent.specs.declared.TurnKind.{TurnKind}
use Rattle.abt_agent.specs.declared.TurnKind.TheVariants as kind

-- the turn of this kind, with this step where one was made
abbrev pub turn_with : TurnKind → Step → Turn
turn_with kind.Quiet s = Quiet
turn_with kind.Announced s = Announced
turn_with kind.Derived s = Derived s
turn_with kind.Empty s = Empty s

-- what the code tells of a turn is what the definitions' outcome shows
abbrev pub IsTurn : Agent → Outcome → Turn → Type 0
IsTurn a o Quiet = (o.step ≡ None) × (o.agent.stamp ≡ a.stamp)
IsTurn a o Announced = (o.step ≡ None) × (o.agent.stamp ≡ a.stamp + 1)
IsTurn a o (Derived s) = (o.step ≡ Some s) × (s.nogood ≢ [])
IsTurn a o (Empty s) = (o.step ≡ Some s) × (s.nogood ≡ [])

-- the two turns of a start
abbrev pub IsFirstTurn : Turn → Type 0
IsFirstTurn Quiet = ⊥
IsFirstTurn Announced = Unit {0}
IsFirstTurn (Derived s) = ⊥
IsFirstTurn (Empty s) = Unit {0}
