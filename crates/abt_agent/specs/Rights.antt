-- When the step of a turn is right.
use Rattle.std.specs.Prelude.{List}
use Rattle.dcsp_defs.specs.Csp.{Csp}
use Rattle.dcsp_defs.specs.declared.Step.{Step}
use Rattle.dcsp_defs.specs.Derivation.{IsRight}
use Rattle.law_agent.specs.Sources.{IsOfStep}
use Rattle.abt_parts.specs.declared.message.Message.{Message}
use Rattle.abt_parts.specs.declared.message.Message.TheVariants.{Tell, Refuse, AddLink}
use Rattle.abt_agent.specs.declared.Turn.{Turn}
use Rattle.abt_agent.specs.declared.Turn.TheVariants.{Quiet, Announced, Derived, Empty}

-- the nogood that the message brings, if it brings one, is that of the step that it names
abbrev pub BringsOfStep : List Step → Message → Type 0
BringsOfStep steps (Tell value stamp) = Unit {0}
BringsOfStep steps (Refuse nogood stamps step) = IsOfStep steps step nogood
BringsOfStep steps AddLink = Unit {0}

-- the step of the turn, if it made one, is right after these
abbrev pub IsRightTurn : Csp → List Step → Turn → Type 0
IsRightTurn p steps Quiet = Unit {0}
IsRightTurn p steps Announced = Unit {0}
IsRightTurn p steps (Derived s) = IsRight p steps s
IsRightTurn p steps (Empty s) = IsRight p steps s
