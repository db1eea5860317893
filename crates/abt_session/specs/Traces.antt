-- What tells of a delivery: its line in the trace, and every so often how far the run is.
use Rattle.std.specs.Prelude.{ℕ, ◌+◌, ◌%◌, ◌&&◌, ◌==◌, Bool, List, [], ◌∷◌, ◌++◌, Option, Some, None, codes, decimal, if◌then◌else◌}
use Rattle.std.specs.Fmt.{signed_decimal}
use Rattle.abt_defs.specs.Runs.{Delivery, Cargo, Tell, Refuse, AddLink}
use Rattle.dcsp_order.specs.Orders.{number_at}
use Rattle.abt_session.specs.declared.telling.Telling.{Telling}

-- a delivery in the model's own numbers
abbrev pub delivery_told : Option (List ℕ) → Delivery → Delivery
delivery_told None d = d
delivery_told (Some order) d = record d { sender = number_at order d.sender; receiver = number_at order d.receiver }

-- what a message carries
abbrev pub cargo_text : Cargo → List ℕ
cargo_text (Tell value) = codes " ok " ++ signed_decimal value
cargo_text (Refuse step) = codes " nogood " ++ decimal step
cargo_text AddLink = codes " link"

-- the line of the delivery with this number, as `% 3 v2>v1 nogood 1`; agents count from 1
abbrev pub trace_line : ℕ → Delivery → List ℕ
trace_line number d =
    codes "% " ++ decimal number ++ codes " v" ++ decimal (d.sender + 1) ++ codes ">v" ++ decimal (d.receiver + 1)
    ++ cargo_text d.cargo ++ codes "\n"

-- progress is told after each delivery whose number is a multiple of this one
abbrev pub progress_every : ℕ
progress_every = 1000000

-- the round of a search is named
abbrev pub round_name : Option ℕ → List ℕ
round_name None = []
round_name (Some number) = codes "round " ++ decimal number ++ codes " "

-- how many deliveries and steps were made
abbrev pub steps_so_far : ℕ → List ℕ
steps_so_far steps = codes " steps " ++ decimal steps ++ codes "\n"

abbrev pub so_far : ℕ → ℕ → List ℕ
so_far deliveries steps = codes "deliveries " ++ decimal deliveries ++ steps_so_far steps

-- the line that tells how far a run is, or a round, as `% progress round 2 deliveries 1000000 steps 41`
abbrev pub progress_line : Option ℕ → ℕ → ℕ → List ℕ
progress_line round deliveries steps = codes "% progress " ++ round_name round ++ so_far deliveries steps

-- whether progress is told after the delivery with this number
abbrev pub tells_progress : Telling → ℕ → Bool
tells_progress telling number = telling.progress && (number % progress_every == 0)

-- the line of the delivery with this number, where a trace is asked for
abbrev pub trace_texts : Telling → ℕ → Delivery → List (List ℕ)
trace_texts telling number d = if telling.trace then trace_line number d ∷ [] else []

-- the progress after so many deliveries and steps, where it is told then
abbrev pub progress_texts : Telling → ℕ → ℕ → List (List ℕ)
progress_texts telling deliveries steps = if tells_progress telling deliveries then progress_line telling.round deliveries steps ∷ [] else []

-- the texts that tell of the delivery with this number, after which so many steps are made
abbrev pub delivery_texts : Telling → ℕ → ℕ → Delivery → List (List ℕ)
delivery_texts telling number steps d = trace_texts telling number d ++ progress_texts telling number steps
