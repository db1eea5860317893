-- Who owns what, the messages, and the state of an agent. Agent i owns variable i; a lower number is a higher priority.
use Rattle.std.specs.Prelude.{ℕ, Bool, false, not, ◌&&◌, List, [], ◌∷◌, map, Option, Some, None, ℤ, ◌==◌}
use Rattle.std.specs.List.{list_any}
use Rattle.dcsp_defs.specs.Pairs.{pair_of}
use Rattle.dcsp_defs.specs.Csp.{Csp, Constraint, PartialAssignment, Nogood, owns}

-- ---- links at the start

-- k is among the numbers
abbrev pub is_among : ℕ → List ℕ → Bool
is_among k numbers = list_any (λ x. k == x) numbers

-- i owns a constraint with k in its scope, so a link leads from k to i
abbrev pub shares : Csp → ℕ → ℕ → Bool
shares p i k = not (k == i) && list_any (λ (c : Constraint). owns i c && is_among k c.scope) p.constraints

-- ---- messages

-- a value with its stamp, which is how many values its agent had taken then, this one included
pub record Stamped : Type 0 where
  pub value : ℤ
  pub stamp : ℕ

-- a nogood whose values have stamps
abbrev pub StampedNogood : Type 0
StampedNogood = List (ℕ × Stamped)

-- without the stamps
abbrev pub plain : StampedNogood → Nogood
plain pairs = map (λ (y : ℕ × Stamped). pair_of y.0 y.1.value) pairs

-- the variable of the last pair, which is the lowest agent that the nogood (first ∷ rest) names
abbrev pub lowest : ℕ × Stamped → StampedNogood → ℕ
lowest first [] = first.0
lowest first (next ∷ rest) = lowest next rest

-- `Tell` is an ok? message, `Refuse` a nogood with its step's number, `AddLink` a link request
pub data Message : Type 0 where
  Tell : (told : Stamped) → Message
  Refuse : (step : ℕ) → (pairs : StampedNogood) → Message
  AddLink : Message

-- ---- states

-- a nogood that is kept, with the number of its step
pub record Record : Type 0 where
  pub step : ℕ
  pub pairs : Nogood

-- the value and the stamp that the agent believes another to have
abbrev pub View : Type 0
View = ℕ → Option Stamped

-- the state of an agent
pub record Agent : Type 0 where
  pub value : Option ℤ
  pub stamp : ℕ  -- how many values it has taken
  pub waits : Bool  -- it has sent a nogood, and its view has not changed since
  pub view : View  -- of higher agents
  pub recorded : List Record  -- in order of arrival
  pub tells : ℕ → Bool  -- the lower agents that are told of each value
  pub linked : ℕ → Bool  -- the higher agents that are linked or asked

-- before the start
abbrev pub fresh : Csp → ℕ → Agent
fresh p i = record { value = None; stamp = 0; waits = false; view = λ k. None; recorded = []; tells = λ j. shares p j i; linked = shares p i }

-- the value without its stamp
abbrev pub value_in : Option Stamped → Option ℤ
value_in None = None
value_in (Some s) = Some s.value

-- the view without its stamps
abbrev pub values_in : View → PartialAssignment
values_in view k = value_in (view k)

-- what the agent knows of others
abbrev pub known : Agent → PartialAssignment
known a = values_in a.view
