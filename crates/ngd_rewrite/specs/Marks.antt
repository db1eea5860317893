-- Tables of marks and of numbers.
use Rattle.std.specs.Prelude.{◌≡◌, ℕ, zero, suc, ◌<◌, ◌≤◌, Bool, true, false, List, map, slice_get, slice_index_or, Some}
use Rattle.dcsp_defs.specs.declared.Step.{Step}
use Rattle.ngd_check.specs.Places.{no_step}
use Rattle.ngd_rewrite.specs.Needed.{cites, renumbered}

-- whether the place, which counts from 0, is marked
abbrev pub has_mark : List Bool → ℕ → Bool
has_mark marks place = slice_index_or marks place false

-- whether the step with this number is marked
abbrev pub is_marked : List Bool → ℕ → Bool
is_marked marks zero = false
is_marked marks (suc place) = has_mark marks place

-- the new number of the step with this number, 0 where it has none
abbrev pub number_in : List ℕ → ℕ → ℕ
number_in numbers zero = 0
number_in numbers (suc place) = slice_index_or numbers place 0

-- the number of a step of these, counted from 1
pub record IsNumber (steps : ℕ) (number : ℕ) : Type 0 where
  pub from_one : 0 < number
  pub within : number ≤ steps

-- steps cite steps before them alone
abbrev pub CiteBack : List Step → Type 0
CiteBack steps = (place : ℕ) (step : Step) → slice_get steps place ≡ Some step → (number : ℕ) → cites step.reasons number ≡ true → IsNumber place number

-- the step at a place, renumbered
abbrev pub renumbered_at : List Step → List ℕ → ℕ → Step
renumbered_at steps numbers place = renumbered (number_in numbers) (slice_index_or steps place no_step)

-- the steps at these places, renumbered
abbrev pub steps_at : List Step → List ℕ → List ℕ → List Step
steps_at steps places numbers = map (renumbered_at steps numbers) places
