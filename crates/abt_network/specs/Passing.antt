-- What one delivery makes of agents and links.
use Rattle.std.specs.Prelude.{◌≡◌, ℕ, ◌+◌, List, [], ◌∷◌, ◌++◌, Option, None, Some, option_to_list}
use Rattle.dcsp_defs.specs.declared.Step.{Step}
use Rattle.abt_defs.specs.Network.{Network, deliver, refutes}
use Rattle.abt_defs.specs.Runs as runs
use Rattle.law_runs.specs.Stops.{list_number}
use Rattle.dcsp_rule.specs.Problems.{Contents, csp_of}
use Rattle.abt_agent.specs.States.{State}
use Rattle.abt_links.specs.Transit.{Transit}
use Rattle.abt_agent.specs.declared.Turn.{Turn}
use Rattle.abt_agent.specs.declared.Turn.TheVariants.{Quiet, Announced, Derived, Empty}
use Rattle.abt_network.specs.declared.Delivery.{Delivery}
use Rattle.abt_network.specs.Standing.{Stands, delivery_of}

-- the step of a turn
abbrev pub step_in : Turn → Option Step
step_in Quiet = None
step_in Announced = None
step_in (Derived s) = Some s
step_in (Empty s) = Some s

-- how many steps there are
abbrev pub steps_made : Option Step → ℕ
steps_made None = 0
steps_made (Some s) = 1

-- agents and links stand where the choice leads from the network, and its delivery is told
pub record PassesOn (p : Contents) (agents : List State) (links : Transit) (net : Network) (choice : ℕ) (d : Delivery) : Type 0 where
  pub stands : Stands p agents links (deliver (csp_of p) choice net)
  pub number : d.number ≡ list_number (csp_of p) choice net
  pub told : runs.delivery (csp_of p) choice net ≡ delivery_of d ∷ []
  pub steps : (deliver (csp_of p) choice net).steps ≡ net.steps ++ option_to_list d.step
  pub refuted : (deliver (csp_of p) choice net).refuted ≡ refutes d.step
  pub deliveries : (deliver (csp_of p) choice net).deliveries ≡ net.deliveries + 1
