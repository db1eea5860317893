-- Where an upgraded log deletes its steps.
use Rattle.std.specs.Prelude.{◌≡◌, ◌↔◌, ◌⊎◌, ℕ, ◌+◌, ◌==◌, ◌<◌, ◌≤◌, List, [], ◌∷◌, ◌++◌, length, count_by, Some}
use Rattle.dcsp_defs.specs.Words.{In}
use Rattle.dcsp_defs.specs.Derivation.{step_at}
use Rattle.dcsp_defs.specs.declared.Step.{Step}
use Rattle.dcsp_defs.specs.declared.Reason.TheVariants.{Earlier}
use Rattle.dcsp_defs.specs.declared.entry.Entry.{Entry}
use Rattle.dcsp_defs.specs.declared.entry.Entry.TheVariants.{Step as A_step, Delete}
use Rattle.ngd_log.specs.Entries.{steps_of}
use Rattle.ngd_rewrite.specs.Upgrade.{upgraded}

-- the step with the first number cites the step with the second
abbrev pub Cites : List Step → ℕ → ℕ → Type 0
Cites steps later number = (step : Step) × (step_at steps later ≡ Some step) × In (Earlier number) step.reasons

-- a step is of use up to this one: the last later step that cites it, or itself where no later one does
pub record IsLastUse (steps : List Step) (number at : ℕ) : Type 0 where
  pub used : (at ≡ number) ⊎ ((number < at) × Cites steps at number)
  pub no_later : (later : ℕ) → at < later → Cites steps later number → ⊥

-- right behind the step with the number `at` the entries delete the step with this number
pub record IsDeletedBehind (entries : List Entry) (number at : ℕ) : Type 0 where
  pub before : List Entry
  pub step : Step
  pub numbers : List ℕ
  pub after : List Entry
  pub parts : entries ≡ before ++ A_step step ∷ Delete numbers ∷ after
  pub counted : length (steps_of before) + 1 ≡ at
  pub among : In number numbers

-- the numbers in deletions, as they stand
abbrev pub deleted : List Entry → List ℕ
deleted [] = []
deleted (A_step step ∷ entries) = deleted entries
deleted (Delete numbers ∷ entries) = numbers ++ deleted entries

-- The entries of an upgraded derivation are its steps in order, and each step is deleted once at the most: right behind its last use, unless that is the last step of all.
pub record DeletesAtLastUse (steps : List Step) : Type 0 where
  pub same_steps : steps_of (upgraded steps) ≡ steps
  pub behind : (number at : ℕ) → IsDeletedBehind (upgraded steps) number at
      ↔ ((1 ≤ number) × (number ≤ length steps) × IsLastUse steps number at × (at < length steps))
  pub once : (number : ℕ) → count_by (λ n. n == number) (deleted (upgraded steps)) ≤ 1
