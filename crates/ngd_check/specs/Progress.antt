-- How far a checker is, and what it has taken.
use Rattle.std.specs.Prelude.{◌≡◌, ◌↔◌, ◌≤◌, ℕ, zero, suc, ℤ, Bool, true, false, List, [], length, slice_index_or, Option, None, MatchOption, ◌==◌, if◌then◌else◌}
use Rattle.std.specs.List.{list_any}
use Rattle.dcsp_defs.specs.Csp.{Csp, IsCsp, Nogood}
use Rattle.dcsp_defs.specs.Derivation.{EndsEmpty}
use Rattle.dcsp_rule.specs.Problems.{Contents, csp_of}
use Rattle.dcsp_defs.specs.declared.entry.Entry.{Entry}
use Rattle.dcsp_defs.specs.declared.Step.{Step}
use Rattle.ngd_check.specs.declared.Finding.{Finding}
use Rattle.ngd_check.specs.declared.Finding.TheVariants.{Verified, BadStep, BadDeletion, NotEmpty}
use Rattle.ngd_check.specs.Citing.{Cited}
use Rattle.ngd_check.specs.Places.{KeptFor}
use Rattle.ngd_check.specs.Tables.{IsClear}
use Rattle.ngd_check.specs.Entries.{steps_of, is_deleted, cited_after, AreRight}
use Rattle.ngd_check.specs.Findings.{IsFirstWrongStep, IsFirstWrongDeletion, IsFindingOf}

-- the problem; for each step the nogood that is kept of it; whether the last step's is empty; what is found of the first wrong entry; whether whole steps are kept, and those that are
pub record Progress : Type 0 where
  pub problem : Contents
  pub kept : List (Option Nogood)
  pub ends_empty : Bool
  pub wrong : Option Finding
  pub keeps : Bool
  pub steps : List Step

-- with what is kept for a problem, whether the last step's nogood is empty, and what is found of the first wrong entry
abbrev pub progress_of : KeptFor → Bool → Option Finding → Progress
progress_of kept ends_empty wrong = record { problem = kept.problem; kept = kept.nogoods; ends_empty = ends_empty; wrong = wrong; keeps = kept.keeps; steps = kept.steps }

-- the problem is well formed, and has so many variables
pub record IsOver (vars : ℕ) (problem : Contents) : Type 0 where
  pub counted : vars ≡ length problem.domains
  pub csp : IsCsp (csp_of problem)

-- between two entries no variable has a value
pub record IsAtRest (vars : ℕ) (problem : Contents) (present : List (Option ℤ)) : Type 0 where
  pub over : IsOver vars problem
  pub clear : IsClear present

-- what is kept of the step with this number
abbrev pub kept_at : List (Option Nogood) → Cited
kept_at kept zero = None
kept_at kept (suc k) = slice_index_or kept k None

-- of the nogoods that were kept those with these numbers were dropped, and no other
abbrev pub AreDropped : List ℕ → List (Option Nogood) → List (Option Nogood) → Type 0
AreDropped numbers old new = (number : ℕ) → kept_at new number ≡ (if list_any (λ dropped. number == dropped) numbers then None else kept_at old number)

-- no entry was wrong, what is kept is what numbers cite, and deletions have numbers of steps alone
pub record HasTakenRight (p : Csp) (entries : List Entry) (kept : List (Option Nogood)) (ends_empty : Bool) : Type 0 where
  pub right : AreRight p entries
  pub steps : length kept ≡ length (steps_of entries)
  pub cited : (number : ℕ) → kept_at kept number ≡ cited_after entries number
  pub named : (number : ℕ) → is_deleted entries number ≡ true → number ≤ length (steps_of entries)
  pub ends : (ends_empty ≡ true) ↔ EndsEmpty (steps_of entries)

-- the finding is of a first wrong entry
abbrev pub IsWrongAt : Csp → List Entry → Finding → Type 0
IsWrongAt p entries Verified = ⊥
IsWrongAt p entries (BadStep number) = IsFirstWrongStep p entries number
IsWrongAt p entries (BadDeletion after) = IsFirstWrongDeletion p entries after
IsWrongAt p entries NotEmpty = ⊥

-- the checker is where taking these entries, in this order, leads
abbrev pub HasTaken : List Entry → Progress → Type 0
HasTaken entries checker = MatchOption checker.wrong
    (HasTakenRight (csp_of checker.problem) entries checker.kept checker.ends_empty)
    (IsWrongAt (csp_of checker.problem) entries)

-- where steps are kept and no entry was wrong, those of the entries are; where they are not, none is
pub record HasKept (entries : List Entry) (checker : Progress) : Type 0 where
  pub all : checker.wrong ≡ None → checker.keeps ≡ true → checker.steps ≡ steps_of entries
  pub none : checker.keeps ≡ false → checker.steps ≡ []

-- of these steps: all where each entry was right, none where one was wrong
abbrev pub right_steps : Finding → List Step → List Step
right_steps Verified steps = steps
right_steps (BadStep number) steps = []
right_steps (BadDeletion after) steps = []
right_steps NotEmpty steps = steps

-- where steps are kept, those of what was taken, by what is found of it
abbrev pub AreRightSteps : Progress → List Step → Type 0
AreRightSteps checker steps = (entries : List Entry) (finding : Finding) → HasTaken entries checker → HasKept entries checker
    → checker.keeps ≡ true → IsFindingOf (csp_of checker.problem) entries finding → steps ≡ right_steps finding (steps_of entries)
