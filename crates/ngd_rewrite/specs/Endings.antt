-- The steps that end at each step, as chains of places in two lists.
use Rattle.std.specs.Prelude.{◌≡◌, ℕ, ◌+◌, ◌<◌, ◌≤◌, List, [], ◌∷◌, length, slice_index_or, Result, Ok, Err, ⊤}
use Rattle.dcsp_defs.specs.declared.Step.{Step}
use Rattle.ngd_log.specs.declared.log.LogError.{LogError}
use Rattle.ngd_log.specs.declared.log.LogError.TheVariants.{Line, Memory}
use Rattle.ngd_log.specs.Logs.{IsLogOf, IsFirstBad}
use Rattle.ngd_log.specs.Entries.{steps_of}
use Rattle.ngd_log.specs.EntryReading.{good_entries}
use Rattle.ngd_log.specs.Pieces.{Kept, IsFed}
use Rattle.ngd_rewrite.specs.Upgrade.{end_of, ending}

-- for each step the place of the first step that ends there, and for each place the next one that ends where it does; a place past the end is none
pub record Chains : Type 0 where
  pub firsts : List ℕ
  pub nexts : List ℕ

-- the chain from this place on has these numbers, which count from 1
abbrev pub Follows : List ℕ → ℕ → List ℕ → Type 0
Follows nexts place [] = length nexts ≤ place
Follows nexts place (number ∷ numbers) = (number ≡ place + 1) × (place < length nexts) × Follows nexts (slice_index_or nexts place 0) numbers

-- the next place is a later one
abbrev pub LeadLater : List ℕ → Type 0
LeadLater nexts = (i : ℕ) → i < length nexts → i < slice_index_or nexts i 0

-- the chain of each step has the steps that end there
pub record AreEndings (steps : List Step) (chains : Chains) : Type 0 where
  pub count : length chains.firsts ≡ length steps
  pub each : (k : ℕ) → k < length steps → Follows chains.nexts (slice_index_or chains.firsts k 0) (ending steps (k + 1))

-- for each of the steps, the number of the step at which it ends
pub record AreEnds (steps : List Step) (ends : List ℕ) : Type 0 where
  pub count : length ends ≡ length steps
  pub each : (i : ℕ) → i < length steps → slice_index_or ends i 0 ≡ end_of steps (i + 1)

-- the steps of the good lines of a text: all of a log's
unfoldable pub steps_in : List ℕ → List Step
steps_in text = steps_of (good_entries text)

-- the reader was fed the text, and this is where each step of its good lines ends
pub record HaveCome (reader : Kept) (ends text : List ℕ) : Type 0 where
  pub fed : IsFed reader text
  pub are_ends : AreEnds (steps_in text) ends

-- the text is the log of its steps, and this is so of them; or exactly its first bad line, want of memory aside
abbrev pub IsReadAs : {T : Type 0} → (List Step → T → Type 0) → List ℕ → Result T LogError → Type 0
IsReadAs Holds text (Ok read) = IsLogOf text (steps_in text) × Holds (steps_in text) read
IsReadAs Holds text (Err (Line number)) = IsFirstBad text number
IsReadAs Holds text (Err Memory) = ⊤
