-- A problem and the order of its variables under which it is run.
use Rattle.std.specs.Prelude.{ℕ, List, Option, option_copied}
use Rattle.dcsp_problem.specs.WellFormed.{IsProblem}
use Rattle.dcsp_order.specs.Told.{IsOrderFor}
use Rattle.abt_session.specs.declared.ordered.Ordered.{Ordered}

-- the order, where that is not the file's own
abbrev pub order_in : Ordered → Option (List ℕ)
order_in model = option_copied model.order

-- the problem is within the limits, and the order is one of its variables
pub record IsOrderedRightly (model : Ordered) : Type 0 where
  pub problem : IsProblem model.problem.now
  pub order : IsOrderFor (order_in model) model.problem.now
