-- The text of entries in either version, and the first bad line of any other text. Version 1 has no deletions.
use Rattle.std.specs.Prelude.{◌≡◌, ℕ, ◌+◌, ◌^◌, ◌≤◌, ◌⊎◌, List, [], ◌∷◌, ◌++◌, flat_map, length, codes, decimal}
use Rattle.std.specs.List.{AllByRecursion, concat}
use Rattle.dcsp_defs.specs.declared.Step.{Step}
use Rattle.dcsp_defs.specs.declared.entry.Entry.{Entry}
use Rattle.dcsp_defs.specs.declared.entry.Entry.TheVariants.{Step as A_step, Delete}
use Rattle.ngd_log.specs.declared.standing.Version.{Version}
use Rattle.ngd_log.specs.declared.standing.Version.TheVariants.{One, Two}
use Rattle.ngd_log.specs.StepText.{step_line, IsStepNumber, IsWritable}
use Rattle.ngd_log.specs.Lines.{lines, IsFirstBadOf}
use Rattle.ngd_log.specs.Logs.{IsLogOf, IsFirstBad}
use Rattle.ngd_log.specs.Entries.{steps_of, entries_of, IsDeletion}

-- the line of a deletion: `d`, and each number after a space
abbrev pub deletion_line : List ℕ → List ℕ
deletion_line numbers = codes "d" ++ flat_map (λ (k : ℕ). codes " " ++ decimal k) numbers ++ codes "\n"

-- the line of an entry, where the next step has this number
abbrev pub entry_line : ℕ → Entry → List ℕ
entry_line number (A_step step) = step_line number step
entry_line number (Delete numbers) = deletion_line numbers

-- the number of the next step after an entry: deletions have none
abbrev pub next_number : ℕ → Entry → ℕ
next_number number (A_step step) = number + 1
next_number number (Delete numbers) = number

-- the lines of the entries, where the next step has this number
abbrev pub entry_lines : ℕ → List Entry → List (List ℕ)
entry_lines number [] = []
entry_lines number (entry ∷ entries) = entry_line number entry ∷ entry_lines (next_number number entry) entries

-- the first line of a text of this version
abbrev pub head : Version → List ℕ
head One = codes "ngd 1\n"
head Two = codes "ngd 2\n"

-- the text of the entries
abbrev pub entries_text : Version → List Entry → List ℕ
entries_text version entries = head version ++ concat (entry_lines 1 entries) ++ codes "end\n"

-- its lines, each with its line feed
abbrev pub text_lines : Version → List Entry → List (List ℕ)
text_lines version entries = head version ∷ entry_lines 1 entries ++ codes "end\n" ∷ []

-- the entry can stand in a text of this version
abbrev pub IsWritableEntry : Version → Entry → Type 0
IsWritableEntry version (A_step step) = IsWritable step
IsWritableEntry One (Delete numbers) = ⊥
IsWritableEntry Two (Delete numbers) = IsDeletion numbers

-- a step has a step's number
abbrev pub IsNumbered : ℕ → Entry → Type 0
IsNumbered number (A_step step) = IsStepNumber number
IsNumbered number (Delete numbers) = Unit {0}

-- the line is that of this entry in a text of this version, where the next step has this number
pub record IsEntryLine (version : Version) (number : ℕ) (line : List ℕ) (entry : Entry) : Type 0 where
  pub numbered : IsNumbered number entry
  pub writable : IsWritableEntry version entry
  pub same : line ≡ entry_line number entry

-- the entries have a text of this version: they and the numbers of the steps are in range
pub record HaveText (version : Version) (entries : List Entry) : Type 0 where
  pub count : length (steps_of entries) ≤ 2 ^ 62
  pub each : AllByRecursion (IsWritableEntry version) entries

-- the text is that of the entries, in this version
pub record IsTextOf (text : List ℕ) (version : Version) (entries : List Entry) : Type 0 where
  pub writable : HaveText version entries
  pub same : text ≡ entries_text version entries

-- the text is that of the entries, in either version
abbrev pub IsLogOfEntries : List ℕ → List Entry → Type 0
IsLogOfEntries text entries = (version : Version) × IsTextOf text version entries

-- the lines are those of some entries' text, of either version
abbrev pub AreTextLines : List (List ℕ) → Type 0
AreTextLines ls = (version : Version) × (entries : List Entry) × HaveText version entries × (text_lines version entries ≡ ls)

-- the first bad line, counted from 1: a text of entries begins with the lines before it, and it is wrong or missing
abbrev pub IsFirstBadLine : List ℕ → ℕ → Type 0
IsFirstBadLine text number = IsFirstBadOf AreTextLines text number

-- Each text is that of one list of entries, or has one first bad line.
pub record EntriesOrBadLine (text : List ℕ) : Type 0 where
  pub some : ((entries : List Entry) × IsLogOfEntries text entries) ⊎ ((number : ℕ) × IsFirstBadLine text number)
  pub one_list : (a b : List Entry) → IsLogOfEntries text a → IsLogOfEntries text b → a ≡ b
  pub one_line : (m n : ℕ) → IsFirstBadLine text m → IsFirstBadLine text n → m ≡ n
  pub not_both : (entries : List Entry) (number : ℕ) → IsLogOfEntries text entries → IsFirstBadLine text number → ⊥

-- Different entries have different texts, of either version, and no text begins another.
abbrev pub TextsDiffer : Type 0
TextsDiffer = (v w : Version) (a b : List Entry) (more : List ℕ) → HaveText v a → HaveText w b
    → entries_text v a ++ more ≡ entries_text w b → (v ≡ w) × (a ≡ b) × (more ≡ [])

-- the text's first line is the head of version 2
abbrev pub IsHeadedTwo : List ℕ → Type 0
IsHeadedTwo text = (others : List (List ℕ)) × (lines text ≡ head Two ∷ others)

-- A text that has not the head of version 2 is the log of steps exactly where it is the text of these as entries, and else has the same first bad line.
pub record IsOneAnswer (text : List ℕ) : Type 0 where
  pub log : (steps : List Step) → IsLogOf text steps → IsLogOfEntries text (entries_of steps)
  pub entries : (entries : List Entry) → IsLogOfEntries text entries → (steps : List Step) × (entries ≡ entries_of steps) × IsLogOf text steps
  pub bad : (number : ℕ) → IsFirstBad text number → IsFirstBadLine text number
  pub bad_line : (number : ℕ) → IsFirstBadLine text number → IsFirstBad text number
