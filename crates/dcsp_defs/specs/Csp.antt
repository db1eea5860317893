-- Constraint satisfaction problems, their solutions, and nogoods. Nothing here speaks of agents.
use Rattle.std.specs.Prelude.{◌≡◌, ℕ, ◌-◌, ◌<◌, Bool, true, not, ◌&&◌, List, [], map, filter, length, slice_get, slice_index_or, Option, Some, ℤ, pos, is_some, unwrap_or}
use Rattle.std.specs.List.{list_all, enumerate_from}
use Rattle.dcsp_defs.specs.declared.nogood.Pair.{Pair}
use Rattle.dcsp_defs.specs.Pairs.{value_at}
use Rattle.dcsp_defs.specs.Words.{In, IsRising, IsRisingIntegers, is_value, is_number, update}

-- a constraint: the variables that it is about, and a test of an assignment
pub record Constraint : Type 0 where
  pub scope : List ℕ
  pub test : (ℕ → ℤ) → Bool

-- a domain for each variable, the first declared first, and the constraints
pub record Csp : Type 0 where
  pub domains : List (List ℤ)
  pub constraints : List Constraint

-- how many variables
abbrev pub count : Csp → ℕ
count p = length p.domains

-- the values that the variable may take
abbrev pub domain : Csp → ℕ → List ℤ
domain p i = slice_index_or p.domains i []

-- a well-formed constraint: its scope rises and lies in the problem, and its test looks at nothing beyond the scope
pub record IsConstraint (p : Csp) (c : Constraint) : Type 0 where
  pub rising : IsRising c.scope
  pub inside : (k : ℕ) → In k c.scope → k < count p
  pub local : (f g : ℕ → ℤ) → ((k : ℕ) → In k c.scope → f k ≡ g k) → c.test f ≡ c.test g

-- a well-formed problem
pub record IsCsp (p : Csp) : Type 0 where
  pub domains : (d : List ℤ) → In d p.domains → IsRisingIntegers d
  pub constraints : (c : Constraint) → In c p.constraints → IsConstraint p c

-- the last variable of the scope, which has the lowest priority of them; a scope without variables has none
abbrev pub owner : Constraint → Option ℕ
owner c = slice_get c.scope (length c.scope - 1)

-- whether i owns the constraint
abbrev pub owns : ℕ → Constraint → Bool
owns i c = is_number (owner c) i

-- the constraints that i owns, in order, each with its number
abbrev pub owned : Csp → ℕ → List (ℕ × Constraint)
owned p i = filter (λ (x : ℕ × Constraint). owns i x.1) (enumerate_from 0 p.constraints)

-- a value for each variable; what it has beyond the problem's variables plays no part
abbrev pub Assignment : Type 0
Assignment = ℕ → ℤ

-- each value is in its variable's domain, and each constraint holds
pub record IsSolution (p : Csp) (values : Assignment) : Type 0 where
  pub domains : (i : ℕ) → i < count p → In (values i) (domain p i)
  pub constraints : (c : Constraint) → In c p.constraints → c.test values ≡ true

-- the problem has no solution
abbrev pub HasNoSolution : Csp → Type 0
HasNoSolution p = (values : Assignment) → IsSolution p values → ⊥

-- pairs of a variable and a value; those of a step and those that are kept rise by variable
abbrev pub Nogood : Type 0
Nogood = List Pair

-- the variables that the nogood names, in order
abbrev pub names : Nogood → List ℕ
names pairs = map (λ (y : Pair). y.var) pairs

-- the assignment has each pair
abbrev pub Extends : Assignment → Nogood → Type 0
Extends values pairs = (y : Pair) → In y pairs → values y.var ≡ y.value

-- values of some variables: a view, a nogood and an assignment are read so
abbrev pub PartialAssignment : Type 0
PartialAssignment = ℕ → Option ℤ

-- the values with v at x
abbrev pub with_value : ℕ → ℤ → PartialAssignment → PartialAssignment
with_value x v known = update known x (Some v)

-- the values that the nogood gives, with v at x
abbrev pub given_with : ℕ → ℤ → Nogood → PartialAssignment
given_with x v pairs = with_value x v (value_at pairs)

-- the values as an assignment
abbrev pub filled : PartialAssignment → Assignment
filled known k = unwrap_or (known k) (pos 0)

-- each variable of the constraint has a value, and with these it is false
abbrev pub is_violated : PartialAssignment → Constraint → Bool
is_violated known c = list_all (λ k. is_some (known k)) c.scope && not (c.test (filled known))

-- the values have each pair
abbrev pub agrees : PartialAssignment → Nogood → Bool
agrees known pairs = list_all (λ (y : Pair). is_value (known y.var) y.value) pairs
