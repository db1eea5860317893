-- What agents keep and receive, at most.
use Rattle.std.specs.Prelude.{◌≡◌, ◌≤◌, ℕ, List, [], flat_map, length, take}
use Rattle.dcsp_defs.specs.Csp.{Csp, IsCsp, domain}
use Rattle.abt_defs.specs.Network.{run, start}
use Rattle.abt_defs.specs.Runs.{whole}
use Rattle.abt_defs.specs.Events.{acts, later_acts}
use Rattle.abt_defs.specs.Measures.{most_recorded, row}
use Rattle.law_runs.specs.ActRuns.{gets, sends}

-- No agent has recorded more nogoods at once than its domain has values.
abbrev pub RecordedFew : Csp → Type 0
RecordedFew p = IsCsp p → (choices : List ℕ) (i : ℕ) → (row p (acts p choices) i).recorded ≤ length (domain p i)

-- how many messages from a to b are sent, and received
abbrev pub sent_from : ℕ → ℕ → Csp → List ℕ → ℕ
sent_from a b p choices = length (flat_map (sends a b) (acts p choices))

abbrev pub got_from : ℕ → ℕ → Csp → List ℕ → ℕ
got_from a b p choices = length (flat_map (gets a b) (acts p choices))

-- From each agent to each no more is delivered than was sent, and all of it where nothing is in transit between them.
pub record DeliversSent (p : Csp) : Type 0 where
  pub at_most : (choices : List ℕ) (a b : ℕ) → got_from a b p choices ≤ sent_from a b p choices
  pub all : (choices : List ℕ) (a b : ℕ) → (run p choices (start p)).links a b ≡ [] → got_from a b p choices ≡ sent_from a b p choices

-- a run by its own numbers is measured alike
pub record MeasuresAgain (p : Csp) (choices numbers : List ℕ) : Type 0 where
  pub acts : acts p numbers ≡ acts p choices
  pub later : later_acts p numbers (start p) ≡ later_acts p choices (start p)
  pub recorded : most_recorded p numbers (start p) ≡ most_recorded p choices (start p)

-- It is so for every run and the choices that it used.
abbrev pub NumbersMeasureAlike : Csp → Type 0
NumbersMeasureAlike p = (most : ℕ) (choices : List ℕ) → MeasuresAgain p (take (length (whole p most choices).numbers) choices) (whole p most choices).numbers
