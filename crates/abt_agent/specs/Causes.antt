-- The first item that rules a value out, as the code finds it.
use Rattle.std.specs.Prelude.{◌≡◌, ◌==◌, ◌&&◌, ◌||◌, nat_lt, ℕ, ◌+◌, ◌<◌, length, ℤ, Bool, List, [], ◌∷◌, find, filter_map, map, Option, Some, None, is_some, not, slice_index_or, if◌then◌else◌}
use Rattle.std.specs.List.{list_any}
use Rattle.std.specs.Option.{option_or}
use Rattle.dcsp_defs.specs.declared.Reason.{Reason}
use Rattle.dcsp_defs.specs.Csp.{PartialAssignment, domain, is_violated, agrees, with_value}
use Rattle.abt_defs.specs.Agents.{Stamped, View, is_among, values_in}
use Rattle.abt_defs.specs.Reasons.{Item, constraint_item, derived, record_item, pair_at}
use Rattle.dcsp_rule.specs.Problems.{Contents, constraint_at, csp_of}
use Rattle.abt_parts.specs.Views.{view_of}
use Rattle.dcsp_problem.specs.Index.{owned_rules}
use Rattle.abt_parts.specs.declared.recorded.Recorded.{Recorded}
use Rattle.abt_parts.specs.Stores.{is_against, record_of, records_of}
use Rattle.abt_reason.specs.Causes.{value_at}
use Rattle.abt_marks.specs.Marks.{has_mark}
use Rattle.abt_agent.specs.declared.knowledge.Knowledge.{Knowledge}
use Rattle.abt_agent.specs.declared.search.Cause.{Cause}
use Rattle.abt_agent.specs.declared.search.Cause.TheVariants.{OwnedRule, KeptNogood}

-- the first of the rules with these numbers that is false
abbrev pub first_rule : Contents → PartialAssignment → List ℕ → Option Cause
first_rule p known [] = None
first_rule p known (r ∷ rs) = if is_violated known (constraint_at p r) then Some (OwnedRule r) else first_rule p known rs

-- the place, counted from a first one, of the first nogood that agrees
abbrev pub first_kept : PartialAssignment → ℕ → List Recorded → Option Cause
first_kept known k [] = None
first_kept known k (x ∷ xs) = if agrees known x.nogood then Some (KeptNogood k) else first_kept known (k + 1) xs

-- the place, counted from a first one, of the first nogood whose lowest pair has the value
abbrev pub first_against : ℤ → ℕ → List Recorded → Option Cause
first_against v k [] = None
first_against v k (x ∷ xs) = if is_against v x then Some (KeptNogood k) else first_against v (k + 1) xs

-- among the rules that i owns, then among the nogoods kept
abbrev pub first_cause : Contents → ℕ → List Recorded → PartialAssignment → Option Cause
first_cause p i kept known = option_or (first_rule p known (owned_rules p i)) (first_kept known 0 kept)

-- what rules out this value of i
abbrev pub cause_for : Contents → ℕ → PartialAssignment → List Recorded → ℤ → Option Cause
cause_for p i known kept v = first_cause p i kept (with_value i v known)

-- what rules out each of the values
abbrev pub causes_for : Contents → ℕ → PartialAssignment → List Recorded → List ℤ → List Cause
causes_for p i known kept values = filter_map (cause_for p i known kept) values

-- what the agent was told
abbrev pub told_to : Knowledge → PartialAssignment
told_to k = values_in (view_of k.view)

-- the value at a place of the agent's domain
abbrev pub own_value : Knowledge → ℕ → ℤ
own_value k place = value_at k.problem.now k.me place

-- what rules it out
abbrev pub cause_at : Knowledge → ℕ → Option Cause
cause_at k place = cause_for k.problem.now k.me (told_to k) k.store (own_value k place)

-- what rules out each value of the agent's domain first
abbrev pub all_causes : Knowledge → List Cause
all_causes k = causes_for k.problem.now k.me (values_in (view_of k.view)) k.store (domain (csp_of k.problem.now) k.me)

-- the least value that nothing rules out
abbrev pub least_free : Contents → ℕ → PartialAssignment → List Recorded → List ℤ → Option ℤ
least_free p i known kept values = find (λ v. not (is_some (cause_for p i known kept v))) values

-- what stands past the last nogood
abbrev pub no_record : Recorded
no_record = record { nogood = []; step = 0 }

-- the item at the place
abbrev pub item_at : Contents → List Recorded → Cause → Item
item_at p kept (OwnedRule r) = constraint_item (r, constraint_at p r)
item_at p kept (KeptNogood k) = record_item (record_of (slice_index_or kept k no_record))

-- what a step cites for the causes, in order
abbrev pub reasons_at : Contents → List Recorded → List Cause → List Reason
reasons_at p kept all = map (λ (x : Cause). (item_at p kept x).reason) all

-- there is an item at the place
abbrev pub IsCause : Contents → List Recorded → Cause → Type 0
IsCause p kept (OwnedRule r) = r < length p.rules
IsCause p kept (KeptNogood k) = k < length kept

-- the item at the place names k
abbrev pub blames_one : Contents → List Recorded → Cause → ℕ → Bool
blames_one p kept x k = is_among k (item_at p kept x).variables

-- if another agent is told, it is the only one of the first so many that the item at the place names
abbrev pub NamesOther : Contents → List Recorded → ℕ → Cause → Option ℕ → Type 0
NamesOther p kept count x other = (var : ℕ) → other ≡ Some var → (k : ℕ) → k < count → blames_one p kept x k ≡ (k == var)

-- an item at the places names k
abbrev pub blames : Contents → List Recorded → List Cause → ℕ → Bool
blames p kept all k = list_any (λ (x : Cause). blames_one p kept x k) all

-- those that the reasons against all values of the agent name are marked too, where the marks have a place for them
abbrev pub AreBlamed : Knowledge → List Bool → List Bool → Type 0
AreBlamed k old new = (var : ℕ) → has_mark new var ≡ (has_mark old var || (nat_lt var (length old) && blames k.problem.now k.store (all_causes k) var))

-- the pairs of the nogood that the reasons against all values of the agent make, with their stamps
abbrev pub derived_by : Knowledge → List (ℕ × Stamped)
derived_by k = derived (csp_of k.problem.now) k.me (view_of k.view) (records_of k.store)

-- what the view has of k
abbrev pub told_of : View → ℕ → Option (ℕ × Stamped)
told_of view k = pair_at k (view k)
