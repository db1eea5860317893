-- Schedules: the text of a list of choices, and the first bad line of any other text.
use Rattle.std.specs.Prelude.{◌≡◌, ℕ, ◌^◌, ◌<◌, ◌⊎◌, List, [], ◌∷◌, ◌++◌, map, codes, decimal, Result, Err}
use Rattle.std.specs.List.{AllByRecursion, concat}
use Rattle.ngd_log.specs.Lines.{Begin, IsFirstBadOf}
use Rattle.abt_schedule.specs.declared.schedule.ScheduleError.{ScheduleError}
use Rattle.abt_schedule.specs.declared.schedule.ScheduleError.TheVariants.{Line, Memory}

-- the line of a choice, with its line feed
abbrev pub choice_line : ℕ → List ℕ
choice_line choice = decimal choice ++ codes "\n"

-- the lines of a schedule, each with its line feed
abbrev pub schedule_lines : List ℕ → List (List ℕ)
schedule_lines choices = codes "schedule 1\n" ∷ map choice_line choices ++ codes "end\n" ∷ []

-- the schedule's text: its lines, one after the other
abbrev pub schedule_text : List ℕ → List ℕ
schedule_text choices = concat (schedule_lines choices)

-- each choice has 32 bits
abbrev pub AreChoices : List ℕ → Type 0
AreChoices choices = AllByRecursion (λ choice. choice < 2 ^ 32) choices

-- the line is that of the choice
pub record IsChoiceLine (line : List ℕ) (choice : ℕ) : Type 0 where
  pub in_range : choice < 2 ^ 32
  pub same : line ≡ choice_line choice

-- the text is the schedule of the choices
pub record IsScheduleOf (text choices : List ℕ) : Type 0 where
  pub in_range : AreChoices choices
  pub same : text ≡ schedule_text choices

-- the bytes begin with the line of this choice, and this is the rest
pub record BeginsWithChoice (bytes : List ℕ) (choice : ℕ) (rest : List ℕ) : Type 0 where
  pub in_range : choice < 2 ^ 32
  pub same : bytes ≡ choice_line choice ++ rest

-- the lines are those of some list's schedule
abbrev pub AreScheduleLines : List (List ℕ) → Type 0
AreScheduleLines ls = (choices : List ℕ) × AreChoices choices × (schedule_lines choices ≡ ls)

-- the first bad line, counted from 1: a schedule begins with the lines before it, and it is wrong or missing
abbrev pub IsFirstBad : List ℕ → ℕ → Type 0
IsFirstBad text number = IsFirstBadOf AreScheduleLines text number

-- Each text is the schedule of one list, or has one first bad line.
pub record ScheduleOrBadLine (text : List ℕ) : Type 0 where
  pub some : ((choices : List ℕ) × IsScheduleOf text choices) ⊎ ((number : ℕ) × IsFirstBad text number)
  pub one_schedule : (a b : List ℕ) → IsScheduleOf text a → IsScheduleOf text b → a ≡ b
  pub one_line : (m n : ℕ) → IsFirstBad text m → IsFirstBad text n → m ≡ n
  pub not_both : (choices : List ℕ) (number : ℕ) → IsScheduleOf text choices → IsFirstBad text number → ⊥

-- Different lists have different schedules, and no schedule begins another.
abbrev pub SchedulesDiffer : Type 0
SchedulesDiffer = (a b more : List ℕ) → AreChoices a → AreChoices b → schedule_text a ++ more ≡ schedule_text b → (a ≡ b) × (more ≡ [])

-- A schedule begins with `schedule 1` and the lines of these choices, and then comes a choice's line, or `end`.
pub record NextLine (choices line : List ℕ) : Type 0 where
  pub only : Begin AreScheduleLines (codes "schedule 1\n" ∷ map choice_line choices ++ line ∷ []) → ((choice : ℕ) × IsChoiceLine line choice) ⊎ (line ≡ codes "end\n")
  pub choice : (choice : ℕ) → IsChoiceLine line choice → Begin AreScheduleLines (codes "schedule 1\n" ∷ map choice_line choices ++ line ∷ [])
  pub last : line ≡ codes "end\n" → Begin AreScheduleLines (codes "schedule 1\n" ∷ map choice_line choices ++ line ∷ [])

-- a result that can only differ from this one by want of memory
abbrev pub IsUnlessMemory : Result (List ℕ) ScheduleError → Result (List ℕ) ScheduleError → Type 0
IsUnlessMemory wanted result = (result ≡ wanted) ⊎ (result ≡ Err Memory)

-- why reading the text gave this error: its first bad line, or want of memory
abbrev pub IsCause : List ℕ → ScheduleError → Type 0
IsCause text (Line number) = IsFirstBad text number
IsCause text Memory = Unit {0}
