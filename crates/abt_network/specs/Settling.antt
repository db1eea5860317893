-- What a start makes of agents and links.
use Rattle.std.specs.Prelude.{◌≡◌, ℕ, List, [], ◌∷◌, length, find, Option, None, is_some, option_to_list}
use Rattle.std.specs.List.{enumerate_from}
use Rattle.std.specs.Option.{option_map}
use Rattle.dcsp_defs.specs.Csp.{Csp, Constraint}
use Rattle.dcsp_defs.specs.declared.Reason.TheVariants.{Rule}
use Rattle.dcsp_defs.specs.declared.Step.{Step}
use Rattle.abt_defs.specs.Steps.{settle}
use Rattle.abt_defs.specs.Network.{Network, acted, empty_network, next_number, is_false, refutes, settle_below}
use Rattle.dcsp_rule.specs.Problems.{Contents, csp_of}
use Rattle.abt_agent.specs.States.{State}
use Rattle.abt_links.specs.Transit.{Transit}
use Rattle.abt_network.specs.Standing.{Stands}

-- the number of the first constraint without variables that is false
abbrev pub first_false : Csp → Option ℕ
first_false p = option_map (λ (x : ℕ × Constraint). x.0) (find (λ (x : ℕ × Constraint). is_false x.1) (enumerate_from 0 p.constraints))

-- the step that such a rule makes
abbrev pub IsRuleStep : ℕ → Step → Type 0
IsRuleStep rule s = s ≡ record { variable = None; nogood = []; reasons = Rule rule ∷ [] }

-- the agent has settled, as in the network, and made this step, or none
pub record HasSettled (p : Contents) (agents : List State) (links : Transit) (net : Network) (i : ℕ) (step : Option Step) : Type 0 where
  pub stands : Stands p agents links (acted i (settle (csp_of p) i (next_number net) (net.agents i)) net)
  pub made : (settle (csp_of p) i (next_number net) (net.agents i)).step ≡ step
  pub refutes : refutes step ≡ is_some step

-- the network of a problem in which agents settled in order, until one refuted
abbrev pub all_settled : Contents → Network
all_settled p = settle_below (csp_of p) (length p.domains) (empty_network (csp_of p))

-- agents and links stand where the network is, in which this step was made, which refutes, or none
pub record HaveSettled (p : Contents) (agents : List State) (links : Transit) (net : Network) (step : Option Step) : Type 0 where
  pub stands : Stands p agents links net
  pub steps : net.steps ≡ option_to_list step
  pub refuted : net.refuted ≡ is_some step
  pub deliveries : net.deliveries ≡ 0
