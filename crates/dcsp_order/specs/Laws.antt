-- What an order leaves as it is.
use Rattle.std.specs.Prelude.{ℕ, List, map, length}
use Rattle.dcsp_defs.specs.declared.Step.{Step}
use Rattle.dcsp_defs.specs.Csp.{Assignment, IsSolution}
use Rattle.dcsp_defs.specs.Derivation.{IsDerivation, IsRefutation}
use Rattle.dcsp_rule.specs.Problems.{Contents, csp_of}
use Rattle.dcsp_problem.specs.WellFormed.{IsProblem}
use Rattle.dcsp_order.specs.Orders.{IsOrder}
use Rattle.dcsp_order.specs.Under.{under, by_place, by_number}
use Rattle.dcsp_order.specs.Renumbered.{step_renumbered}

-- an order of the variables of a problem
abbrev pub IsOrderOf : Contents → List ℕ → Type 0
IsOrderOf p order = IsOrder (length p.domains) order

-- A solution, told by places, is one of the problem under the order.
abbrev pub SolutionsGo : Type 0
SolutionsGo = (p : Contents) → IsProblem p → (order : List ℕ) → IsOrderOf p order → (values : Assignment)
    → IsSolution (csp_of p) values → IsSolution (csp_of (under order p)) (by_place order values)

-- A solution of the problem under the order, told by numbers, is one of the problem.
abbrev pub SolutionsCome : Type 0
SolutionsCome = (p : Contents) → IsProblem p → (order : List ℕ) → IsOrderOf p order → (values : Assignment)
    → IsSolution (csp_of (under order p)) values → IsSolution (csp_of p) (by_number order values)

-- A derivation for the problem under the order is, renumbered, one for the problem.
abbrev pub DerivationsCome : Type 0
DerivationsCome = (p : Contents) → IsProblem p → (order : List ℕ) → IsOrderOf p order → (steps : List Step)
    → IsDerivation (csp_of (under order p)) steps → IsDerivation (csp_of p) (map (step_renumbered order) steps)

-- A refutation of the problem under the order is, renumbered, one of the problem.
abbrev pub RefutationsCome : Type 0
RefutationsCome = (p : Contents) → IsProblem p → (order : List ℕ) → IsOrderOf p order → (steps : List Step)
    → IsRefutation (csp_of (under order p)) steps → IsRefutation (csp_of p) (map (step_renumbered order) steps)
