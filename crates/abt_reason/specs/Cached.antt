-- What is kept for each value of an agent's domain, and what it stands for.
use Rattle.std.specs.Prelude.{◌≡◌, ◌≢◌, ◌+◌, ℕ, ◌<◌, ◌≤◌, All, Bool, true, false, List, [], ◌∷◌, ◌++◌, length, slice_index_or, Option, None, Some}
use Rattle.dcsp_domain.specs.Sets.{IsRising}
use Rattle.dcsp_defs.specs.Csp.{PartialAssignment, domain}
use Rattle.abt_defs.specs.Agents.{values_in}
use Rattle.dcsp_rule.specs.Problems.{Contents, constraint_at, csp_of}
use Rattle.dcsp_problem.specs.Index.{owned_rules}
use Rattle.abt_parts.specs.declared.recorded.Recorded.{Recorded}
use Rattle.abt_parts.specs.Views.{view_of}
use Rattle.dcsp_row.specs.declared.marks.Marks.{Marks}
use Rattle.dcsp_row.specs.Marks.{is_marked, is_row, FitsSize}
use Rattle.dcsp_row.specs.Rows.{is_ruled_out, own_at}
use Rattle.abt_reason.specs.declared.grid.RuledOut.{RuledOut}
use Rattle.abt_reason.specs.declared.grid.ValueRun.{ValueRun}
use Rattle.abt_reason.specs.declared.kept.KeptSteps.{KeptSteps}
use Rattle.abt_reason.specs.declared.rules.FirstRules.{FirstRules}
use Rattle.abt_reason.specs.declared.rules.Owner.{Owner}
use Rattle.abt_reason.specs.Grids.{marks, rows_of, AreSized, HaveFirst, HaveRoom, IsGrid}
use Rattle.abt_reason.specs.declared.named.Naming.{Naming}
use Rattle.abt_reason.specs.Named.{only_other, others_of, ListsScopes, RisesByVariable}
use Rattle.dcsp_defs.specs.declared.Reason.{Reason}
use Rattle.abt_reason.specs.Causes.{known_at, is_false, is_free_at, reason_for, value_at}
use Rattle.abt_reason.specs.Firsts.{IsFirst, IsFirstBetween}
use Rattle.abt_reason.specs.Kept.{AreLeft, HaveSteps, IsFitting, KeepsSteps}

-- for each owned rule the values that it rules out; for each value the step of the first item that agrees; the number
-- of items; and whether each is known to be a nogood of the agent
pub record Cached : Type 0 where
  pub problem : Contents
  pub agent : ℕ
  pub rows : List (List Bool)
  pub steps : List (Option ℕ)
  pub count : ℕ
  pub own : Bool

-- how many values the agent's domain has
abbrev pub size_of : Contents → ℕ → ℕ
size_of p agent = length (domain (csp_of p) agent)

-- how many rules the agent owns
abbrev pub rules_of : Contents → ℕ → ℕ
rules_of p agent = length (owned_rules p agent)

-- the agent exists, these are the rules that it owns, and so many values has its domain
pub record IsOwner (p : Contents) (agent : ℕ) (rules : List ℕ) (values : ℕ) : Type 0 where
  pub agent_exists : agent < length p.domains
  pub rules_are : rules ≡ owned_rules p agent
  pub rules_exist : All (λ rule. rule < length p.rules) rules
  pub values_are : values ≡ size_of p agent

-- what the owner was told
abbrev pub told_to : Owner → PartialAssignment
told_to owner = values_in (view_of owner.view.now)

-- the rows of what is ruled out, for the owner's values
abbrev pub rows_for : Owner → RuledOut → List (List Bool)
rows_for owner ruled_out = rows_of (size_of owner.problem.now owner.agent) ruled_out.rows.items

-- the row of the owned rule at a place tells at which of the agent's values it is false
abbrev pub IsRightAt : Contents → ℕ → PartialAssignment → List (List Bool) → ℕ → Type 0
IsRightAt p agent known rows place = (k : ℕ) → k < size_of p agent → marks rows k place ≡ is_false p agent (known_at p agent known k) place

-- the rows of the owned rules that are named do
abbrev pub AreRightAt : Contents → ℕ → PartialAssignment → List (List Bool) → List Naming → Type 0
AreRightAt p agent known rows namings = All (λ naming. IsRightAt p agent known rows naming.place) namings

-- each row but that at a place is as it was
abbrev pub KeepsOthers : ℕ → ℕ → List Marks → List Marks → Type 0
KeepsOthers values place old new = (other value : ℕ) → other ≢ place → marks (rows_of values new) value other ≡ marks (rows_of values old) value other

-- the bits tell at which of the agent's values the rule is false
abbrev pub HasMarksOf : Contents → ℕ → ℕ → PartialAssignment → Marks → Type 0
HasMarksOf p rule agent known bits = (k : ℕ) → k < size_of p agent → is_marked bits k ≡ is_ruled_out p rule agent known (own_at (domain (csp_of p) agent) k)

-- each row that was right is right
abbrev pub StaysRight : Contents → ℕ → PartialAssignment → List Marks → List Marks → Type 0
StaysRight p agent known old new = (place : ℕ) → IsRightAt p agent known (rows_of (size_of p agent) old) place → IsRightAt p agent known (rows_of (size_of p agent) new) place

-- the row of each owned rule does
abbrev pub KeepsRows : Contents → ℕ → PartialAssignment → List (List Bool) → Type 0
KeepsRows p agent known rows = (place : ℕ) → place < rules_of p agent → IsRightAt p agent known rows place

-- this was right before something was learnt of one variable
pub record RowsStoodBefore (p : Contents) (agent var : ℕ) (known : PartialAssignment) (rows : List (List Bool)) : Type 0 where
  pub known_before : PartialAssignment
  pub stood : KeepsRows p agent known_before rows
  pub others : (k : ℕ) → k ≢ var → known_before k ≡ known k

-- what is kept is right for these values known and these items
pub record StandsFor (r : Cached) (known : PartialAssignment) (items : List Recorded) : Type 0 where
  pub rules : KeepsRows r.problem r.agent known r.rows
  pub kept : KeepsSteps (domain (csp_of r.problem) r.agent) r.agent known items r.steps r.count r.own

-- what is kept was right before something was learnt of one variable
pub record StoodBefore (r : Cached) (var : ℕ) (known : PartialAssignment) (items : List Recorded) : Type 0 where
  pub known_before : PartialAssignment
  pub items_before : List Recorded
  pub stood : StandsFor r known_before items_before
  pub others : (k : ℕ) → k ≢ var → known_before k ≡ known k
  pub left : AreLeft var known items_before items

-- what is kept was right before the last item was added
pub record StoodWithoutLast (r : Cached) (known : PartialAssignment) (items : List Recorded) : Type 0 where
  pub items_before : List Recorded
  pub last : Recorded
  pub stood : StandsFor r known items_before
  pub added : items ≡ items_before ++ last ∷ []

-- what is kept was right before the last item was added, which fits
pub record StoodWithoutFitting (r : Cached) (known : PartialAssignment) (items : List Recorded) : Type 0 where
  pub stood : StoodWithoutLast r known items
  pub fitting : IsFitting r.agent known stood.last

-- the values from the one at a place on that stand before the run's end have the run's rule as the first that rules them out
abbrev pub IsValueRunFrom : Cached → ℕ → ValueRun → Type 0
IsValueRunFrom r place run = HaveFirst r.rows (rules_of r.problem r.agent) place run.first run.end

-- each value for which there is a first rule is a run of its own
abbrev pub AreFirstsOf : Cached → List (Option ℕ) → Type 0
AreFirstsOf r firsts = (place : ℕ) → place < length firsts → IsValueRunFrom r place (record { first = slice_index_or firsts place None; end = place + 1 })

-- the owned rule at a place
abbrev pub owned_at : Cached → ℕ → ℕ
owned_at r at = slice_index_or (owned_rules r.problem r.agent) at 0

-- the one variable that the owned rule at a place names beside the agent
abbrev pub other_at : Cached → ℕ → Option ℕ
other_at r at = only_other r.agent (constraint_at r.problem (owned_at r at)).scope

-- the run's rule names this variable alone beside the agent
pub record IsOtherIn (r : Cached) (run : ValueRun) (var : ℕ) : Type 0 where
  pub at : ℕ
  pub first : run.first ≡ Some at
  pub other : other_at r at ≡ Some var

-- it is the reason for the value at a place, whatever is stood for
abbrev pub IsReasonAt : Cached → ℕ → Option Reason → Type 0
IsReasonAt r place reason = (known : PartialAssignment) (items : List Recorded) → StandsFor r known items → reason ≡ reason_for r.problem r.agent known items (value_at r.problem r.agent place)

-- it is the place, among the owned rules, of the first that is false at the value at a place, whatever is stood for
abbrev pub IsFirstFalseAt : Cached → ℕ → Option ℕ → Type 0
IsFirstFalseAt r place found = (known : PartialAssignment) (items : List Recorded) → StandsFor r known items
    → IsFirst (is_false r.problem r.agent (known_at r.problem r.agent known place)) (rules_of r.problem r.agent) found

-- it is the first place whose value nothing rules out
abbrev pub IsFirstFree : Cached → Option ℕ → Type 0
IsFirstFree r free = (known : PartialAssignment) (items : List Recorded) → StandsFor r known items → IsFirst (is_free_at r.problem r.agent known items) (size_of r.problem r.agent) free

-- it is the first such place from one on that stands before an end
abbrev pub IsFirstFreeBetween : Cached → ℕ → ℕ → Option ℕ → Type 0
IsFirstFreeBetween r from end free = (known : PartialAssignment) (items : List Recorded) → StandsFor r known items → IsFirstBetween (is_free_at r.problem r.agent known items) from end free

-- the value at no place from one on that stands before an end is free
abbrev pub NoneFreeBetween : Cached → ℕ → ℕ → Type 0
NoneFreeBetween r from end = (known : PartialAssignment) (items : List Recorded) → StandsFor r known items → (k : ℕ) → from ≤ k → k < end → is_free_at r.problem r.agent known items k ≡ false

-- there is room for a step for each value
abbrev pub HasRoom : Cached → Type 0
HasRoom r = length r.steps ≡ size_of r.problem r.agent

-- for each owned rule the marks of the values that it rules out, with counts and firsts; those of a rule that need not rule out one span are bits
pub record AreRows (p : Contents) (agent : ℕ) (rows : List Marks) (counts : List ℕ) (firsts : List (Option ℕ)) : Type 0 where
  pub each_rule : length rows ≡ rules_of p agent
  pub grid : IsGrid (rows_of (size_of p agent) rows) (size_of p agent) counts firsts
  pub sized : AreSized (size_of p agent) rows
  pub has_room : HaveRoom p agent (owned_rules p agent) rows

-- the bits of one row
abbrev pub IsRoom : ℕ → Marks → Type 0
IsRoom values room = FitsSize values room × (is_row room ≡ true)

-- the marks of each owned rule, the variables of their scopes in order, and room for the bits of a row
pub record AreRuleLists (p : Contents) (agent : ℕ) (rows : List Marks) (counts : List ℕ) (firsts : List (Option ℕ)) (namings : List Naming) (room : Marks) : Type 0 where
  pub are_rows : AreRows p agent rows counts firsts
  pub listed : ListsScopes p (owned_rules p agent) namings (rules_of p agent)
  pub rising : RisesByVariable namings
  pub has_room : IsRoom (size_of p agent) room

-- these are such lists of the agent's
abbrev pub AreListsOf : Contents → ℕ → FirstRules → Type 0
AreListsOf p agent rules = AreRuleLists p agent rules.ruled_out.rows.items rules.ruled_out.counts.items rules.ruled_out.firsts.items rules.named rules.room

-- what is kept of rules and steps
abbrev pub shown : Contents → ℕ → FirstRules → KeptSteps → Cached
shown p agent rules kept = record { problem = p; agent = agent; rows = rows_of (size_of p agent) rules.ruled_out.rows.items; steps = kept.steps.items; count = kept.count; own = kept.own }

-- what every cache is
pub record IsCache (r : Cached) (owned : List ℕ) (others : List (Option ℕ)) (rows : List Marks) (counts : List ℕ) (firsts : List (Option ℕ)) (namings : List Naming) (room : Marks) : Type 0 where
  pub owner : IsOwner r.problem r.agent owned (size_of r.problem r.agent)
  pub others_are : others ≡ others_of r.problem r.agent owned
  pub rising : IsRising (domain (csp_of r.problem) r.agent)
  pub rows_are : r.rows ≡ rows_of (size_of r.problem r.agent) rows
  pub for_rules : AreRuleLists r.problem r.agent rows counts firsts namings room
  pub kept : HaveSteps (size_of r.problem r.agent) r.steps r.count

-- what is kept of rules and steps is a cache
abbrev pub IsCacheOf : Contents → ℕ → List ℕ → List (Option ℕ) → FirstRules → KeptSteps → Type 0
IsCacheOf p agent owned others rules kept =
    IsCache (shown p agent rules kept) owned others rules.ruled_out.rows.items rules.ruled_out.counts.items rules.ruled_out.firsts.items rules.named rules.room
