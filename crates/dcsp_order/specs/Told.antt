-- A run under an order, and what it tells in the model's own numbers. Without an order both are the model's.
use Rattle.std.specs.Prelude.{◌≡◌, ℕ, List, map, length, Option, Some, None, IfSome}
use Rattle.dcsp_defs.specs.declared.Step.{Step}
use Rattle.dcsp_defs.specs.Csp.{Assignment}
use Rattle.dcsp_rule.specs.Problems.{Contents}
use Rattle.dcsp_order.specs.Orders.{number_at, place_of, IsOrder}
use Rattle.dcsp_order.specs.Under.{under, by_number}
use Rattle.dcsp_order.specs.Renumbered.{step_renumbered}

-- the problem that is run
abbrev pub ordered : Option (List ℕ) → Contents → Contents
ordered None p = p
ordered (Some order) p = under order p

-- an order, where there is one, has as many numbers as the problem has variables
abbrev pub Fits : Option (List ℕ) → Contents → Type 0
Fits order p = IfSome order (λ numbers. length numbers ≡ length p.domains)

-- an order, where there is one, is one of the problem's variables
abbrev pub IsOrderFor : Option (List ℕ) → Contents → Type 0
IsOrderFor order p = IfSome order (IsOrder (length p.domains))

-- the number of the variable at a place
abbrev pub number_told : Option (List ℕ) → ℕ → ℕ
number_told None place = place
number_told (Some order) place = number_at order place

-- the place of a variable
abbrev pub place_told : Option (List ℕ) → ℕ → ℕ
place_told None number = number
place_told (Some order) number = place_of order number

-- a step
abbrev pub step_told : Option (List ℕ) → Step → Step
step_told None s = s
step_told (Some order) s = step_renumbered order s

-- steps
abbrev pub steps_told : Option (List ℕ) → List Step → List Step
steps_told None steps = steps
steps_told (Some order) steps = map (step_renumbered order) steps

-- values
abbrev pub values_told : Option (List ℕ) → Assignment → Assignment
values_told None values = values
values_told (Some order) values = by_number order values
