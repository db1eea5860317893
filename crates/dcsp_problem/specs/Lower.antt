-- The later variables that own a rule over a variable.
use Rattle.std.specs.Prelude.{◌≡◌, ℕ, ◌<◌, Bool, ◌&&◌, ◌||◌, ◌==◌, nat_lt, List, filter, length, slice_index_or, []}
use Rattle.std.specs.List.{list_any}
use Rattle.dcsp_defs.specs.Words.{below, is_number}
use Rattle.dcsp_defs.specs.Csp.{Csp, Constraint, owns, count}
use Rattle.dcsp_problem.specs.Owners.{last_of}

-- the number is one of these
abbrev pub is_among : ℕ → List ℕ → Bool
is_among number numbers = list_any (λ x. number == x) numbers

-- the numbers below n that are among these, rising
abbrev pub set_below : ℕ → List ℕ → List ℕ
set_below n numbers = filter (λ x. is_among x numbers) (below n)

-- the one variable owns the constraint, and the other is in its scope
abbrev pub joins : ℕ → ℕ → Constraint → Bool
joins owner var c = owns owner c && is_among var c.scope

-- the variables after this one that own a constraint with it in scope, rising
abbrev pub lower_owners : Csp → ℕ → List ℕ
lower_owners p var = filter (λ owner. nat_lt var owner && list_any (joins owner var) p.constraints) (below (count p))

-- the same of one scope: the one variable is its last, and the other an earlier one of it
abbrev pub ends_after : List ℕ → ℕ → ℕ → Bool
ends_after scope var owner = is_number (last_of scope) owner && (nat_lt var owner && is_among var scope)

-- the variables below n that are last in one of the scopes, after this one, rising
abbrev pub lower_among : List (List ℕ) → ℕ → ℕ → List ℕ
lower_among scopes n var = filter (λ owner. list_any (λ (scope : List ℕ). ends_after scope var owner) scopes) (below n)

-- each list has its old numbers, and those that pass its test
pub record Adds (test : ℕ → ℕ → Bool) (old new : List (List ℕ)) : Type 0 where
  pub many : length new ≡ length old
  pub each : (var number : ℕ) → var < length old → is_among number (slice_index_or new var []) ≡ (is_among number (slice_index_or old var []) || test var number)
