-- Entries: steps, numbered from 1 in their order, and deletions of earlier steps. When they are right, and when they refute.
use Rattle.std.specs.Prelude.{◌≡◌, ℕ, Bool, true, false, ◌||◌, ◌==◌, if◌then◌else◌, List, [], ◌∷◌, take, slice_get, Some, None, is_some, ◌↔◌}
use Rattle.std.specs.List.{list_any}
use Rattle.dcsp_defs.specs.declared.Step.{Step}
use Rattle.dcsp_defs.specs.Words.{In}
use Rattle.dcsp_defs.specs.Csp.{Csp, Assignment, IsCsp, IsSolution, HasNoSolution, Extends}
use Rattle.dcsp_defs.specs.Derivation.{step_at, EndsEmpty, IsDerivation, IsRefutation}
use Rattle.dcsp_defs.specs.declared.entry.Entry.{Entry}
use Rattle.dcsp_defs.specs.declared.entry.Entry.TheVariants.{Step as A_step, Delete}
pub use Rattle.ngd_log.specs.Entries.{steps_of, entries_of}
use Rattle.ngd_check.specs.Citing.{Cited, IsRightCiting, nogood_at}

-- whether a deletion among the entries has the number
abbrev pub is_deleted : List Entry → ℕ → Bool
is_deleted [] number = false
is_deleted (A_step step ∷ entries) number = is_deleted entries number
is_deleted (Delete numbers ∷ entries) number = list_any (λ deleted. number == deleted) numbers || is_deleted entries number

-- after the entries, a number cites the nogood of the step with that number, unless a deletion among them has it
abbrev pub cited_after : List Entry → Cited
cited_after entries number = if is_deleted entries number then None else nogood_at (steps_of entries) number

-- a right deletion, after these entries: each number is that of a step among them, and in no deletion among them
abbrev pub IsRightDeletion : List Entry → List ℕ → Type 0
IsRightDeletion before numbers = (number : ℕ) → In number numbers → is_some (cited_after before number) ≡ true

-- a right entry, after these entries
abbrev pub IsRightEntry : Csp → List Entry → Entry → Type 0
IsRightEntry p before (A_step step) = IsRightCiting p (cited_after before) step
IsRightEntry p before (Delete numbers) = IsRightDeletion before numbers

-- each entry is right after those before it
abbrev pub AreRight : Csp → List Entry → Type 0
AreRight p entries = (k : ℕ) (entry : Entry) → slice_get entries k ≡ Some entry → IsRightEntry p (take k entries) entry

-- right entries with a step, the last of which has the empty nogood
pub record DoRefute (p : Csp) (entries : List Entry) : Type 0 where
  pub right : AreRight p entries
  pub ends : EndsEmpty (steps_of entries)

-- No solution extends the nogood of a step of right entries.
abbrev pub EntriesExclude : Csp → Type 0
EntriesExclude p = IsCsp p → (entries : List Entry) → AreRight p entries
    → (number : ℕ) (s : Step) → step_at (steps_of entries) number ≡ Some s
    → (values : Assignment) → IsSolution p values → Extends values s.nogood → ⊥

-- A problem that entries refute has no solution.
abbrev pub EntriesRefute : Csp → Type 0
EntriesRefute p = IsCsp p → (entries : List Entry) → DoRefute p entries → HasNoSolution p

-- Steps without deletions are a derivation exactly where they are right entries, and a refutation exactly where these refute.
pub record AreOneForm (p : Csp) (steps : List Step) : Type 0 where
  pub derivation : IsDerivation p steps ↔ AreRight p (entries_of steps)
  pub refutation : IsRefutation p steps ↔ DoRefute p (entries_of steps)
