-- What the lines of a trace tell.
use Rattle.std.specs.Prelude.{◌≡◌, ◌≢◌, ◌↔◌, ℕ, ◌+◌, ◌<◌, ◌≤◌, ◌^◌, List, [], ◌∷◌, ◌++◌, length, slice_index_or, FitsSigned}
use Rattle.std.specs.Int.{w64}
use Rattle.std.specs.List.{AllByRecursion}
use Rattle.std.specs.Str.{byte}
use Rattle.abt_defs.specs.Runs.{Delivery, Cargo, Tell, Refuse, AddLink}
use Rattle.abt_session.specs.Traces.{trace_line}

-- what a message carries has 64 bits
abbrev pub CargoFits : Cargo → Type 0
CargoFits (Tell value) = FitsSigned w64 value
CargoFits (Refuse step) = step < 2 ^ 64
CargoFits AddLink = Unit {0}

-- what a delivery's line tells has 64 bits
pub record DeliveryFits (d : Delivery) : Type 0 where
  pub sender : d.sender + 1 < 2 ^ 64
  pub receiver : d.receiver + 1 < 2 ^ 64
  pub cargo : CargoFits d.cargo

-- two lines are equal exactly where number, sender, receiver and what is carried are
abbrev pub LinesTellDeliveries : Type 0
LinesTellDeliveries =
    (number other : ℕ) (d e : Delivery) → number < 2 ^ 64 → other < 2 ^ 64 → DeliveryFits d → DeliveryFits e
    → (trace_line number d ≡ trace_line other e) ↔ ((number ≡ other) × (d ≡ e))

-- the lines of these deliveries, the first of which has this number
abbrev pub trace_text : ℕ → List Delivery → List ℕ
trace_text number [] = []
trace_text number (d ∷ deliveries) = trace_line number d ++ trace_text (number + 1) deliveries

-- a trace of deliveries that can be told, and an answer behind it, which does not begin with the byte of a trace's line
pub record IsTraced (deliveries : List Delivery) (answer : List ℕ) : Type 0 where
  pub few : length deliveries ≤ 2 ^ 40
  pub fit : AllByRecursion DeliveryFits deliveries
  pub other : slice_index_or answer 0 0 ≢ byte "%"

-- two traces with answers behind them are equal exactly where the deliveries and the answers are
abbrev pub TracesTellDeliveries : Type 0
TracesTellDeliveries =
    (ds es : List Delivery) (answer other : List ℕ) → IsTraced ds answer → IsTraced es other
    → (trace_text 1 ds ++ answer ≡ trace_text 1 es ++ other) ↔ ((ds ≡ es) × (answer ≡ other))
