-- When a whole run stops, and what it is by its deliveries.
use Rattle.std.specs.Prelude.{◌≡◌, ◌↔◌, ℕ, ◌%◌, ◌<◌, ◌≤◌, Bool, true, false, List, [], ◌∷◌, take, drop, length, slice_get, Some}
use Rattle.dcsp_defs.specs.Csp.{Csp}
use Rattle.abt_defs.specs.Network.{Network, run, start, ready, is_empty}
use Rattle.abt_defs.specs.Runs.{Delivery, Refuted, Solved, Capped, Spent, Run, whole, delivery}

-- the network after so many deliveries under the choices
abbrev pub after : Csp → List ℕ → ℕ → Network
after p choices k = run p (take k choices) (start p)

-- nothing was refuted, and a message is in transit
pub record IsOpen (p : Csp) (net : Network) : Type 0 where
  pub alive : net.refuted ≡ false
  pub in_transit : is_empty (ready p net) ≡ false

-- the number of the nonempty list that a choice delivers from
abbrev pub list_number : Csp → ℕ → Network → ℕ
list_number p c net = c % length (ready p net)

-- the end of a run, by its last network and by what is left of its choices
pub record EndsBy (p : Csp) (most : ℕ) (r : Run) : Type 0 where
  pub refuted : (r.end ≡ Refuted) ↔ (r.net.refuted ≡ true)
  pub solved : (r.end ≡ Solved) ↔ ((r.net.refuted ≡ false) × (is_empty (ready p r.net) ≡ true))
  pub capped : (r.end ≡ Capped) ↔ (IsOpen p r.net × (r.net.deliveries ≡ most))
  pub spent : (r.end ≡ Spent) ↔ (IsOpen p r.net × ((r.net.deliveries < most) × (r.left ≡ [])))

-- what the run does with choice k
pub record Delivers (p : Csp) (choices : List ℕ) (r : Run) (k c : ℕ) : Type 0 where
  pub number : slice_get r.numbers k ≡ Some (list_number p c (after p choices k))
  pub made : Delivery
  pub is_made : delivery p c (after p choices k) ≡ made ∷ []
  pub traced : slice_get r.trace k ≡ Some made

-- a run by its deliveries: it is open before each of them, delivers by the choices in order, and stops at the first of the four stops
pub record Stops (p : Csp) (most : ℕ) (choices : List ℕ) (r : Run) : Type 0 where
  pub net : r.net ≡ after p choices r.net.deliveries
  pub left : r.left ≡ drop r.net.deliveries choices
  pub at_most : r.net.deliveries ≤ most
  pub chosen : r.net.deliveries ≤ length choices
  pub counted : (k : ℕ) → k ≤ r.net.deliveries → (after p choices k).deliveries ≡ k
  pub open_before : (k : ℕ) → k < r.net.deliveries → IsOpen p (after p choices k)
  pub delivers : (k c : ℕ) → k < r.net.deliveries → slice_get choices k ≡ Some c → Delivers p choices r k c
  pub numbers : length r.numbers ≡ r.net.deliveries
  pub trace : length r.trace ≡ r.net.deliveries
  pub ends : EndsBy p most r

-- It is so for every problem and all choices.
abbrev pub AllStop : Csp → Type 0
AllStop p = (most : ℕ) (choices : List ℕ) → Stops p most choices (whole p most choices)
