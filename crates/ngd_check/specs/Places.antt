-- Pairs as variables and places in their domains.
use Rattle.std.specs.Prelude.{◌≡◌, ℕ, zero, suc, ◌<◌, ◌≤◌, pos, Bool, true, false, if◌then◌else◌, List, [], map, length, Option, Some, None, All, slice_index_or}
use Rattle.std.specs.Option.{option_map}
use Rattle.dcsp_defs.specs.declared.nogood.Pair.{Pair}
use Rattle.dcsp_defs.specs.declared.Step.{Step}
use Rattle.dcsp_defs.specs.Csp.{Csp, Nogood, domain, count}
use Rattle.dcsp_rule.specs.Problems.{Contents, csp_of}
use Rattle.ngd_store.specs.declared.arena.Placed.{Placed}
use Rattle.ngd_store.specs.declared.arena.TheConstants.{NO_VAR}
use Rattle.ngd_store.specs.Rests.{Rest, no_rest, values_below}

-- the variable and the value at its place
abbrev pub pair_of : Csp → Placed → Pair
pair_of p placed = record { var = placed.var; value = slice_index_or (domain p placed.var) placed.place (pos 0) }

abbrev pub pairs_of : Csp → List Placed → Nogood
pairs_of p placed = map (pair_of p) placed

-- it names a variable of the problem and a place in its domain
pub record IsPlaced (p : Csp) (placed : Placed) : Type 0 where
  pub variable : placed.var < count p
  pub place : placed.place < length (domain p placed.var)
  pub named : placed.var < NO_VAR

-- it is the pair with the place of its value
pub record IsPlacedAt (p : Csp) (pair : Pair) (placed : Placed) : Type 0 where
  pub there : IsPlaced p placed
  pub same : pair_of p placed ≡ pair

-- the pairs with their places
pub record ArePlaced (p : Csp) (pairs : Nogood) (placed : List Placed) : Type 0 where
  pub each : All (IsPlaced p) placed
  pub same : pairs_of p placed ≡ pairs

-- what is kept for a problem: for each step its nogood, unless it was dropped; whether whole steps are kept, and those that are
pub record KeptFor : Type 0 where
  pub problem : Contents
  pub nogoods : List (Option Nogood)
  pub keeps : Bool
  pub steps : List Step

-- the nogood of the list of pairs at a place, unless it was given back or is marked as dropped
abbrev pub nogood_left : Csp → List (Option (List Placed)) → List Bool → ℕ → Option Nogood
nogood_left p lists dropped k = if slice_index_or dropped k false then None else option_map (pairs_of p) (slice_index_or lists k None)

-- the nogoods of these lists of pairs, some of which are marked as dropped
abbrev pub nogoods_of : Csp → List (Option (List Placed)) → List Bool → List (Option Nogood)
nogoods_of p lists dropped = values_below (nogood_left p lists dropped) (length lists)

-- the list, without pairs where it was given back
abbrev pub placed_in : Option (List Placed) → List Placed
placed_in None = []
placed_in (Some placed) = placed

-- the step whose nogood is that of the list, with its rest
abbrev pub step_of : Csp → Option (List Placed) → Rest → Step
step_of p list rest = record { variable = rest.variable; nogood = pairs_of p (placed_in list); reasons = rest.reasons }

abbrev pub step_in : Csp → List (Option (List Placed)) → List Rest → ℕ → Step
step_in p lists rests k = step_of p (slice_index_or lists k None) (slice_index_or rests k no_rest)

-- the steps whose nogoods are those of the lists, with their rests
abbrev pub steps_in : Csp → List (Option (List Placed)) → List Rest → List Step
steps_in p lists rests = values_below (step_in p lists rests) (length rests)

-- what is kept for this problem in lists, some of them marked as dropped, and rests
abbrev pub kept_for : Contents → List (Option (List Placed)) → List Bool → List Rest → Bool → KeptFor
kept_for problem lists dropped rests keeps = record { problem = problem; nogoods = nogoods_of (csp_of problem) lists dropped; keeps = keeps; steps = steps_in (csp_of problem) lists rests }

-- what stands past the last step
abbrev pub no_step : Step
no_step = record { variable = None; nogood = []; reasons = [] }

-- each list is one of places of the problem
abbrev pub AreLists : Csp → List (Option (List Placed)) → Type 0
AreLists p lists = (k : ℕ) (placed : List Placed) → slice_index_or lists k None ≡ Some placed → All (IsPlaced p) placed

-- the list is one of places of the problem, and has the pairs of the nogood
pub record IsListOf (kept : KeptFor) (nogood : Option Nogood) (placed : List Placed) : Type 0 where
  pub placed_is : All (IsPlaced (csp_of kept.problem)) placed
  pub same : nogood ≡ Some (pairs_of (csp_of kept.problem) placed)

-- the list with this number, which counts from 1
abbrev pub list_at : List (Option (List Placed)) → ℕ → Option (List Placed)
list_at lists zero = None
list_at lists (suc k) = slice_index_or lists k None

-- it is the number of one of so many lists
pub record IsNumber (lists number : ℕ) : Type 0 where
  pub some : 0 < number
  pub within : number ≤ lists

-- the lists are ones of places of the problem; where whole steps are kept each list has its rest, and else none has one
pub record AreStored (p : Csp) (lists : List (Option (List Placed))) (dropped : List Bool) (rests : List Rest) (keeps : Bool) : Type 0 where
  pub placed : AreLists p lists
  pub marked : length dropped ≤ length lists
  pub all : keeps ≡ true → length rests ≡ length lists
  pub none : keeps ≡ false → rests ≡ []
