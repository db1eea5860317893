-- Who owns which rule, read off the rules' scopes.
use Rattle.std.specs.Prelude.{ℕ, ◌-◌, List, [], ◌∷◌, ◌++◌, map, filter, length, slice_get, slice_set, slice_index_or, Option, Some, None}
use Rattle.std.specs.List.{enumerate_from}
use Rattle.dcsp_defs.specs.Words.{is_number}

-- the last variable of a scope
abbrev pub last_of : List ℕ → Option ℕ
last_of scope = slice_get scope (length scope - 1)

-- the places of the scopes, counted from a first place, whose last variable this is
abbrev pub owned_from : ℕ → List (List ℕ) → ℕ → List ℕ
owned_from first scopes var = map (λ (x : ℕ × List ℕ). x.0) (filter (λ (x : ℕ × List ℕ). is_number (last_of x.1) var) (enumerate_from first scopes))

-- the places of the scopes whose last variable this is
abbrev pub owned_among : List (List ℕ) → ℕ → List ℕ
owned_among scopes var = owned_from 0 scopes var

-- the lists with a rule added to its owner's
abbrev pub with_owned : Option ℕ → ℕ → List (List ℕ) → List (List ℕ)
with_owned None rule lists = lists
with_owned (Some owner) rule lists = slice_set lists owner (slice_index_or lists owner [] ++ rule ∷ [])
