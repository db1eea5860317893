-- For each variable the places of the rules that name it.
use Rattle.std.specs.Prelude.{◌≡◌, ◌==◌, ℕ, ◌<◌, ◌≤◌, true, List, [], ◌∷◌, length, All, Contains, Option, Some, None, map, slice_index_or, if◌then◌else◌}
use Rattle.std.specs.List.Sorted.{IsNonDecreasingBy}
use Rattle.dcsp_defs.specs.Csp.{IsConstraint}
use Rattle.abt_defs.specs.Agents.{is_among}
use Rattle.dcsp_rule.specs.Problems.{Contents, csp_of, constraint_at}
use Rattle.abt_reason.specs.declared.named.Naming.{Naming}

-- the rule at a place has the variable in its scope
abbrev pub naming : ℕ → ℕ → Naming
naming place var = record { var = var; place = place }

-- in the list stand the variables of the scopes of the first so many of these rules, each with the place of its rule
pub record ListsScopes (p : Contents) (numbers : List ℕ) (namings : List Naming) (count : ℕ) : Type 0 where
  pub within : All (λ (n : Naming). n.place < count) namings
  pub complete : (j var : ℕ) → j < count → is_among var (constraint_at p (slice_index_or numbers j 0)).scope ≡ true → Contains namings (naming j var)
  pub constraints : (j : ℕ) → j < count → IsConstraint (csp_of p) (constraint_at p (slice_index_or numbers j 0))

-- the one variable of a scope that stands before the agent's own
abbrev pub only_other : ℕ → List ℕ → Option ℕ
only_other agent [] = None
only_other agent (var ∷ []) = None
only_other agent (var ∷ own ∷ []) = if own == agent then Some var else None
only_other agent (var ∷ own ∷ more ∷ rest) = None

-- for each of the rules the one variable that it names beside the agent's own
abbrev pub others_of : Contents → ℕ → List ℕ → List (Option ℕ)
others_of p agent rules = map (λ rule. only_other agent (constraint_at p rule).scope) rules

-- the variables do not fall
abbrev pub RisesByVariable : List Naming → Type 0
RisesByVariable namings = IsNonDecreasingBy (λ (n : Naming). n.var) namings

-- the variable begins at this place of the list, or would
pub record BeginsAt (namings : List Naming) (var start : ℕ) : Type 0 where
  pub within : start ≤ length namings
  pub before : (k : ℕ) (d : Naming) → k < start → (slice_index_or namings k d).var < var
  pub after : (k : ℕ) (d : Naming) → start ≤ k → k < length namings → var ≤ (slice_index_or namings k d).var

-- each of the first so many variables begins where it is told
abbrev pub AreStarts : List Naming → List ℕ → Type 0
AreStarts namings starts = (var : ℕ) → var < length starts → BeginsAt namings var (slice_index_or starts var 0)
