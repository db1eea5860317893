-- Whole runs, with their stops.
use Rattle.std.specs.Prelude.{ℕ, zero, suc, ◌-◌, ◌%◌, ℤ, not, ◌&&◌, List, [], ◌∷◌, ◌++◌, length, slice_get, position, if◌then◌else◌, Option, Some, None, is_some, unwrap_or, ◌==◌}
use Rattle.dcsp_defs.specs.Csp.{Csp}
use Rattle.abt_defs.specs.Agents as agents
use Rattle.abt_defs.specs.Agents.{Message}
use Rattle.abt_defs.specs.Network.{Network, ready, deliver, start, is_empty}

-- what a trace shows of a message: a value, a step's number, or a link request
pub data Cargo : Type 0 where
  Tell : (value : ℤ) → Cargo
  Refuse : (step : ℕ) → Cargo
  AddLink : Cargo

-- what a message carries, as a trace has it
abbrev pub cargo_of : Message → Cargo
cargo_of (agents.Tell s) = Tell s.value
cargo_of (agents.Refuse step pairs) = Refuse step
cargo_of agents.AddLink = AddLink

-- one delivery
pub record Delivery : Type 0 where
  pub sender : ℕ
  pub receiver : ℕ
  pub cargo : Cargo

-- the delivery of the head of this list from the first to the second, if it has one
abbrev pub head_on : ℕ → ℕ → List Message → List Delivery
head_on k i [] = []
head_on k i (m ∷ rest) = record { sender = k; receiver = i; cargo = cargo_of m } ∷ []

-- the delivery for this pair, if there is a pair
abbrev pub delivery_at : Option (ℕ × ℕ) → Network → List Delivery
delivery_at None net = []
delivery_at (Some x) net = head_on x.0 x.1 (net.links x.0 x.1)

-- what the choice delivers
abbrev pub delivery : Csp → ℕ → Network → List Delivery
delivery p c net = delivery_at (slice_get (ready p net) (c % length (ready p net))) net

-- why a run stopped: refuted; nothing in transit; the greatest number of deliveries made; the choices used up
pub data End : Type 0 where
  Refuted : End
  Solved : End
  Capped : End
  Spent : End

-- what a run gives: left are the choices that were not used, numbers says which of the nonempty lists each delivery was from
pub record Run : Type 0 where
  pub end : End
  pub net : Network
  pub left : List ℕ
  pub numbers : List ℕ
  pub trace : List Delivery

-- the stops but the last, tried in this order
abbrev pub stop : Csp → ℕ → Network → Option End
stop p most net = if net.refuted then Some Refuted else (if is_empty (ready p net) then Some Solved else (if most == 0 then Some Capped else None))

-- no delivery more
abbrev pub stopped : Csp → ℕ → List ℕ → Network → Run
stopped p most left net = record { end = unwrap_or (stop p most net) Spent; net = net; left = left; numbers = []; trace = [] }

-- one delivery before the rest of the run
abbrev pub with_delivery : ℕ → List Delivery → Run → Run
with_delivery number d r = record r { numbers = number ∷ r.numbers; trace = d ++ r.trace }

-- the run from a network, under the choices, with at most this many deliveries
abbrev pub go : Csp → ℕ → List ℕ → Network → Run
go p most [] net = stopped p most [] net
go p most (c ∷ cs) net =
    if is_some (stop p most net)
    then stopped p most (c ∷ cs) net
    else with_delivery (c % length (ready p net)) (delivery p c net) (go p (most - 1) cs (deliver p c net))

-- a run from the start, with this greatest number of deliveries and these choices
abbrev pub whole : Csp → ℕ → List ℕ → Run
whole p most choices = go p most choices (start p)

-- ---- starved links

-- the number of the first nonempty list that is not from a to b, or 0 where that is the only one
abbrev pub starved_choice : Csp → ℕ → ℕ → Network → ℕ
starved_choice p a b net = unwrap_or (position (λ (x : ℕ × ℕ). not (a == x.0 && b == x.1)) (ready p net)) 0

-- the choices that starve the link from a to b, for at most this many deliveries
abbrev pub starved_choices : Csp → ℕ → ℕ → ℕ → Network → List ℕ
starved_choices p a b zero net = []
starved_choices p a b (suc most) net =
    if is_some (stop p (suc most) net) then [] else starved_choice p a b net ∷ starved_choices p a b most (deliver p (starved_choice p a b net) net)

-- the run under them
abbrev pub starved : Csp → ℕ → ℕ → ℕ → Run
starved p a b most = whole p most (starved_choices p a b most (start p))
