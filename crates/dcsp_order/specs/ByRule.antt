-- Orders by a rule: at each place stands the variable that the rule takes before all that come later.
use Rattle.std.specs.Prelude.{◌≡◌, ℕ, ◌<◌, Bool, not, ◌&&◌, ◌⊎◌, ◌==◌, List, take}
use Rattle.std.specs.List.{list_any, count_by}
use Rattle.dcsp_defs.specs.Words.{below}
use Rattle.dcsp_defs.specs.Csp.{Csp, Constraint, count}
use Rattle.dcsp_order.specs.Orders.{number_at, IsOrder}
use Rattle.dcsp_order.specs.declared.by_rule.OrderRule.{OrderRule}
use Rattle.dcsp_order.specs.declared.by_rule.OrderRule.TheVariants.{Degree, Links, Reverse}

-- the number is one of these
abbrev pub is_among : ℕ → List ℕ → Bool
is_among number numbers = list_any (λ x. x == number) numbers

-- some constraint has both in its scope
abbrev pub share_scope : Csp → ℕ → ℕ → Bool
share_scope p i k = list_any (λ (c : Constraint). is_among i c.scope && is_among k c.scope) p.constraints

-- they are different, and some constraint has both in its scope
abbrev pub are_neighbours : Csp → ℕ → ℕ → Bool
are_neighbours p i k = not (i == k) && share_scope p i k

-- how many of these are neighbours of i
abbrev pub neighbours_among : Csp → ℕ → List ℕ → ℕ
neighbours_among p i numbers = count_by (are_neighbours p i) numbers

-- how many neighbours i has
abbrev pub degree : Csp → ℕ → ℕ
degree p i = neighbours_among p i (below (count p))

-- the greater one first; where both are the same, as it is said then
abbrev pub GreaterOr : ℕ → ℕ → Type 0 → Type 0
GreaterOr a b then = (b < a) ⊎ ((a ≡ b) × then)

-- more neighbours first, and then the lower number
abbrev pub HasGreaterDegree : Csp → ℕ → ℕ → Type 0
HasGreaterDegree p i k = GreaterOr (degree p i) (degree p k) (i < k)

-- with these placed, the rule takes i before k
abbrev pub IsBefore : OrderRule → Csp → List ℕ → ℕ → ℕ → Type 0
IsBefore Degree p placed i k = HasGreaterDegree p i k
IsBefore Links p placed i k = GreaterOr (neighbours_among p i placed) (neighbours_among p k placed) (HasGreaterDegree p i k)
IsBefore Reverse p placed i k = k < i

-- the order by the rule
pub record IsOrderBy (rule : OrderRule) (p : Csp) (order : List ℕ) : Type 0 where
  pub is_order : IsOrder (count p) order
  pub first : (a b : ℕ) → a < b → b < count p → IsBefore rule p (take a order) (number_at order a) (number_at order b)

-- There is one order by a rule at most.
abbrev pub OneOrderByRule : Type 0
OneOrderByRule = (rule : OrderRule) (p : Csp) (a b : List ℕ) → IsOrderBy rule p a → IsOrderBy rule p b → a ≡ b
