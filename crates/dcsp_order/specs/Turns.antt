-- What decides which variable is placed next.
use Rattle.std.specs.Prelude.{◌≡◌, ◌≢◌, ℕ, ◌+◌, ◌*◌, ◌<◌, Bool, true, false, not, ◌&&◌, ◌||◌, ◌==◌, nat_lt, List, length, slice_index, Option, Some, None}
use Rattle.dcsp_defs.specs.Csp.{Csp, count}
use Rattle.dcsp_order.specs.ByRule.{neighbours_among, degree, GreaterOr}
use Rattle.dcsp_order.specs.Taken.{flag_at}
use Rattle.dcsp_order.specs.declared.by_rule.OrderRule.{OrderRule}
use Rattle.dcsp_order.specs.declared.by_rule.OrderRule.TheVariants.{Degree, Links, Reverse}

-- what is looked at first: how many neighbours are placed, where the rule asks for that
abbrev pub links_of : OrderRule → Csp → List ℕ → ℕ → ℕ
links_of Degree p placed k = 0
links_of Links p placed k = neighbours_among p k placed
links_of Reverse p placed k = 0

-- what is looked at next, which stays: how many neighbours there are, or the number itself
abbrev pub weight_of : OrderRule → Csp → ℕ → ℕ
weight_of Degree p k = degree p k
weight_of Links p k = degree p k
weight_of Reverse p k = k

-- a weight for each variable
pub record AreWeights (rule : OrderRule) (p : Csp) (weights : List ℕ) : Type 0 where
  pub as_many : length weights ≡ count p
  pub each : (k : ℕ) → k < count p → slice_index weights k ≡ weight_of rule p k

-- the one has more links, or as many and more weight
abbrev pub is_greater : List ℕ → List ℕ → ℕ → ℕ → Bool
is_greater linked weights i k =
    nat_lt (slice_index linked k) (slice_index linked i)
    || ((slice_index linked k == slice_index linked i) && nat_lt (slice_index weights k) (slice_index weights i))

-- the one goes before the other: more links, then more weight, then the lower number
abbrev pub IsAhead : List ℕ → List ℕ → ℕ → ℕ → Type 0
IsAhead linked weights i k =
    GreaterOr (slice_index linked i) (slice_index linked k) (GreaterOr (slice_index weights i) (slice_index weights k) (i < k))

-- of the first so many that are left, the one that goes before all others; none where none is left
abbrev pub IsNext : List Bool → List ℕ → List ℕ → ℕ → Option ℕ → Type 0
IsNext left linked weights many None = (k : ℕ) → k < many → flag_at left k ≡ false
IsNext left linked weights many (Some i) =
    (i < many) × (flag_at left i ≡ true) × ((k : ℕ) → k < many → flag_at left k ≡ true → k ≢ i → IsAhead linked weights i k)

-- one link more where the rule asks for links
abbrev pub gain : OrderRule → Bool → ℕ
gain Links true = 1
gain rule flag = 0

-- a variable is placed: each other one that shares a scope with it has one link more, where the rule asks for that
pub record GainsLinks (rule : OrderRule) (number : ℕ) (shared : List Bool) (old new : List ℕ) : Type 0 where
  pub as_many : length new ≡ length old
  pub each : (k : ℕ) → k < length old → slice_index new k ≡ slice_index old k + gain rule (not (number == k) && flag_at shared (number * length old + k))
