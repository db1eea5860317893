-- A derivation as entries, in which each step is deleted after the last step that cites it.
use Rattle.std.specs.Prelude.{ℕ, zero, suc, ◌+◌, Bool, false, ◌==◌, if◌then◌else◌, List, [], ◌∷◌, ◌++◌, length, max}
use Rattle.std.specs.List.{list_any, filter}
use Rattle.dcsp_defs.specs.declared.Reason.{Reason}
use Rattle.dcsp_defs.specs.declared.Reason.TheVariants.{Rule, Earlier}
use Rattle.dcsp_defs.specs.declared.Step.{Step}
use Rattle.dcsp_defs.specs.declared.entry.Entry.{Entry}
use Rattle.dcsp_defs.specs.declared.entry.Entry.TheVariants.{Step as A_step, Delete}

-- whether the reason is the step with this number
abbrev pub is_citation : ℕ → Reason → Bool
is_citation number (Rule rule) = false
is_citation number (Earlier cited) = cited == number

-- whether the step with this number is among the reasons
abbrev pub cites : ℕ → List Reason → Bool
cites number reasons = list_any (is_citation number) reasons

-- the last of the steps that cites a number, and 0 if none does; the first of the steps has the number `first`
abbrev pub last_citing : ℕ → List Step → ℕ → ℕ
last_citing first [] number = 0
last_citing first (step ∷ steps) number = max (if cites number step.reasons then first else 0) (last_citing (first + 1) steps number)

-- where a step ends: at the last step that cites it, or at itself if that is later
abbrev pub end_of : List Step → ℕ → ℕ
end_of steps number = max number (last_citing 1 steps number)

-- the numbers from 1 to n
abbrev pub numbers : ℕ → List ℕ
numbers zero = []
numbers (suc n) = numbers n ++ suc n ∷ []

-- the steps that end at this step, rising
abbrev pub ending : List Step → ℕ → List ℕ
ending steps last = filter (λ number. end_of steps number == last) (numbers (length steps))

-- a deletion of these steps, if there are any
abbrev pub as_deletion : List ℕ → List Entry
as_deletion [] = []
as_deletion (number ∷ others) = Delete (number ∷ others) ∷ []

-- after a step with this number: the steps that end there are deleted, but not where no step is left
abbrev pub deletion_after : List Step → ℕ → List Step → List Entry
deletion_after steps number [] = []
deletion_after steps number (next ∷ others) = as_deletion (ending steps number)

-- the entries of those of the steps that are left, the first of which has this number
abbrev pub upgraded_from : List Step → ℕ → List Step → List Entry
upgraded_from steps number [] = []
upgraded_from steps number (step ∷ others) = A_step step ∷ (deletion_after steps number others ++ upgraded_from steps (number + 1) others)

-- all steps in order, and after each but the last one deletion of the steps that end there, if any do
abbrev pub upgraded : List Step → List Entry
upgraded steps = upgraded_from steps 1 steps

-- how many numbers stand in deletions
abbrev pub deleted_count : List Entry → ℕ
deleted_count [] = 0
deleted_count (A_step step ∷ entries) = deleted_count entries
deleted_count (Delete numbers ∷ entries) = length numbers + deleted_count entries
