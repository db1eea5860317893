-- Why a value is ruled out, and the nogood that follows where all values are. Stamps play no part in it.
use Rattle.std.specs.Prelude.{ℕ, Bool, List, ◌++◌, map, find, filter_map, Option, Some, None, ℤ, is_some, if◌then◌else◌}
use Rattle.std.specs.List.{list_any}
use Rattle.dcsp_defs.specs.declared.Reason.{Reason}
use Rattle.dcsp_defs.specs.declared.Reason.TheVariants.{Rule, Earlier}
use Rattle.dcsp_defs.specs.declared.Step.{Step}
use Rattle.std.specs.Option.{option_map}
use Rattle.dcsp_defs.specs.Pairs.{pair_of}
use Rattle.dcsp_defs.specs.Words.{below}
use Rattle.dcsp_defs.specs.Csp.{Csp, Constraint, PartialAssignment, Nogood, is_violated, agrees, with_value, names, domain, owned}
use Rattle.abt_defs.specs.Agents.{Stamped, StampedNogood, plain, Record, View, values_in, is_among}

-- a constraint or a recorded nogood: its variables, when it is violated, and the pairs that it contributes to a nogood
pub record Item : Type 0 where
  pub reason : Reason
  pub variables : List ℕ
  pub violated : PartialAssignment → Bool
  pub pairs : PartialAssignment → Nogood

-- the pairs of those variables that have a value
abbrev pub known_pairs : PartialAssignment → List ℕ → Nogood
known_pairs known scope = filter_map (λ k. option_map (pair_of k) (known k)) scope

-- an owned constraint, with its number, as an item
abbrev pub constraint_item : ℕ × Constraint → Item
constraint_item x = record { reason = Rule x.0; variables = x.1.scope; violated = λ values. is_violated values x.1; pairs = λ values. known_pairs values x.1.scope }

-- a recorded nogood as an item
abbrev pub record_item : Record → Item
record_item x = record { reason = Earlier x.step; variables = names x.pairs; violated = λ values. agrees values x.pairs; pairs = λ values. x.pairs }

-- the constraints that i owns in order, then its recorded nogoods in order of arrival
abbrev pub items : Csp → ℕ → List Record → List Item
items p i recorded = map constraint_item (owned p i) ++ map record_item recorded

-- the reason for a value of i: the first item that is violated under it
abbrev pub cause : Csp → ℕ → PartialAssignment → List Record → ℤ → Option Item
cause p i known recorded v = find (λ (x : Item). x.violated (with_value i v known)) (items p i recorded)

-- whether the value has a reason
abbrev pub ruled_out : Csp → ℕ → PartialAssignment → List Record → ℤ → Bool
ruled_out p i known recorded v = is_some (cause p i known recorded v)

-- the reasons of all values of the domain, in order
abbrev pub causes : Csp → ℕ → PartialAssignment → List Record → List Item
causes p i known recorded = filter_map (cause p i known recorded) (domain p i)

-- the variable with its value and stamp, where it has one
abbrev pub pair_at : ℕ → Option Stamped → Option (ℕ × Stamped)
pair_at k None = None
pair_at k (Some s) = Some (k, s)

-- what the view has of k, where some reason names k
abbrev pub blamed : Csp → ℕ → View → List Record → ℕ → Option (ℕ × Stamped)
blamed p i view recorded k = if list_any (λ (x : Item). is_among k x.variables) (causes p i (values_in view) recorded) then pair_at k (view k) else None

-- the pairs of the view that the reasons rest on, rising by variable
abbrev pub derived : Csp → ℕ → View → List Record → StampedNogood
derived p i view recorded = filter_map (blamed p i view recorded) (below i)

-- the step that says so
abbrev pub step_of : Csp → ℕ → View → List Record → Step
step_of p i view recorded = record { variable = Some i; nogood = plain (derived p i view recorded); reasons = map (λ (x : Item). x.reason) (causes p i (values_in view) recorded) }
