-- Logs: the text of a derivation, and the first bad line of any other text.
use Rattle.std.specs.Prelude.{◌≡◌, ℕ, ◌+◌, ◌^◌, ◌≤◌, ◌⊎◌, List, [], ◌∷◌, ◌++◌, length, codes, Result, Err}
use Rattle.std.specs.List.{AllByRecursion, concat}
use Rattle.dcsp_defs.specs.declared.Step.{Step}
use Rattle.ngd_log.specs.declared.log.LogError.{LogError}
use Rattle.ngd_log.specs.declared.log.LogError.TheVariants.{Line, Memory}
use Rattle.ngd_log.specs.Lines.{Begin, IsFirstBadOf}
use Rattle.ngd_log.specs.StepText.{step_line, IsWritable, IsStepLine}

-- the lines of the steps, the first of which has this number
abbrev pub step_lines : ℕ → List Step → List (List ℕ)
step_lines number [] = []
step_lines number (step ∷ steps) = step_line number step ∷ step_lines (number + 1) steps

-- the derivation's log before its last line
abbrev pub open_log : List Step → List ℕ
open_log steps = codes "ngd 1\n" ++ concat (step_lines 1 steps)

-- the text of the derivation's log
abbrev pub log_text : List Step → List ℕ
log_text steps = open_log steps ++ codes "end\n"

-- the lines of the derivation's log, each with its line feed
abbrev pub log_lines : List Step → List (List ℕ)
log_lines steps = codes "ngd 1\n" ∷ step_lines 1 steps ++ codes "end\n" ∷ []

-- the derivation has a log: its steps and their numbers are in range
pub record AreWritable (steps : List Step) : Type 0 where
  pub count : length steps ≤ 2 ^ 62
  pub each : AllByRecursion IsWritable steps

-- the text is the log of the derivation
pub record IsLogOf (text : List ℕ) (steps : List Step) : Type 0 where
  pub writable : AreWritable steps
  pub same : text ≡ log_text steps

-- the lines are those of some derivation's log
abbrev pub AreLogLines : List (List ℕ) → Type 0
AreLogLines ls = (steps : List Step) × AreWritable steps × (log_lines steps ≡ ls)

-- the first bad line, counted from 1: a log begins with the lines before it, and it is wrong or missing
abbrev pub IsFirstBad : List ℕ → ℕ → Type 0
IsFirstBad text number = IsFirstBadOf AreLogLines text number

-- Each text is the log of one derivation, or has one first bad line.
pub record LogOrBadLine (text : List ℕ) : Type 0 where
  pub some : ((steps : List Step) × IsLogOf text steps) ⊎ ((number : ℕ) × IsFirstBad text number)
  pub one_log : (a b : List Step) → IsLogOf text a → IsLogOf text b → a ≡ b
  pub one_line : (m n : ℕ) → IsFirstBad text m → IsFirstBad text n → m ≡ n
  pub not_both : (steps : List Step) (number : ℕ) → IsLogOf text steps → IsFirstBad text number → ⊥

-- Different derivations have different logs, and no log begins another.
abbrev pub LogsDiffer : Type 0
LogsDiffer = (a b : List Step) (more : List ℕ) → AreWritable a → AreWritable b
    → log_text a ++ more ≡ log_text b → (a ≡ b) × (more ≡ [])

-- A log begins with `ngd 1` and the lines of these steps, and then comes the line of the step with the next number, or `end`.
pub record NextLine (steps : List Step) (line : List ℕ) : Type 0 where
  pub only : Begin AreLogLines (codes "ngd 1\n" ∷ step_lines 1 steps ++ line ∷ []) → ((step : Step) × IsStepLine (length steps + 1) line step) ⊎ (line ≡ codes "end\n")
  pub step : (step : Step) → IsStepLine (length steps + 1) line step → Begin AreLogLines (codes "ngd 1\n" ∷ step_lines 1 steps ++ line ∷ [])
  pub last : line ≡ codes "end\n" → Begin AreLogLines (codes "ngd 1\n" ∷ step_lines 1 steps ++ line ∷ [])

-- a result that can only differ from this one by want of memory
abbrev pub IsUnlessMemory : Result (List Step) LogError → Result (List Step) LogError → Type 0
IsUnlessMemory wanted result = (result ≡ wanted) ⊎ (result ≡ Err Memory)

-- why reading the text gave this error: its first bad line, or want of memory
abbrev pub IsCause : List ℕ → LogError → Type 0
IsCause text (Line number) = IsFirstBad text number
IsCause text Memory = Unit {0}
