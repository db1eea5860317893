-- Reading a line of an entry from left to right, on lists.
use Rattle.std.specs.Prelude.{ℕ, Bool, true, false, ◌&&◌, List, [], ◌∷◌, length, Option, Some, None, nat_lt, if◌then◌else◌, codes}
use Rattle.std.specs.Str.{bytes_eq}
use Rattle.dcsp_defs.specs.declared.entry.Entry.{Entry}
use Rattle.dcsp_defs.specs.declared.entry.Entry.TheVariants.{Step as A_step, Delete}
use Rattle.ngd_log.specs.declared.standing.Version.{Version}
use Rattle.ngd_log.specs.declared.standing.Version.TheVariants.{One, Two}
use Rattle.dcsp_common.specs.Reading.{◌>>=◌}
use Rattle.ngd_log.specs.Reading.{alone, after, items_at, step_number_at, step_front}
use Rattle.ngd_log.specs.Lines.{lines}
use Rattle.ngd_log.specs.EntryTexts.{next_number}

-- the numbers, each behind a space
abbrev pub numbers_at : List ℕ → Option (List ℕ × List ℕ)
numbers_at bytes = items_at (codes " ") step_number_at (length bytes) bytes

-- whether each number is above the one before it, and the first above `last`
abbrev pub rises_after : ℕ → List ℕ → Bool
rises_after last [] = true
rises_after last (k ∷ numbers) = nat_lt last k && rises_after k numbers

-- the numbers, each behind a space, where they rise, the first above 0
abbrev pub rising_at : List ℕ → Option (List ℕ × List ℕ)
rising_at bytes = do
  ns ← numbers_at bytes
  if rises_after 0 ns.0 then Some ns else None

-- whether there is a number
abbrev pub has_number : List ℕ → Bool
has_number [] = false
has_number (k ∷ numbers) = true

-- the numbers of a deletion, whose line after its `d` is in front, and what stands after the line
unfoldable pub deletion_front : List ℕ → Option (List ℕ × List ℕ)
deletion_front bytes = do
  ns ← rising_at bytes
  rest ← if has_number ns.0 then after (codes "\n") ns.1 else None
  Some (ns.0, rest)

-- what stands after the mark of a deletion, which a text of version 1 has not
abbrev pub after_deletion_mark : Version → List ℕ → Option (List ℕ)
after_deletion_mark One bytes = None
after_deletion_mark Two bytes = after (codes "d") bytes

-- the entry whose line is in front, where `rest` is what stands after the mark of a deletion if that is next
abbrev pub either_entry : ℕ → List ℕ → Option (List ℕ) → Option (Entry × List ℕ)
either_entry number bytes None = step_front number bytes >>= λ x. Some (A_step x.0, x.1)
either_entry number bytes (Some rest) = deletion_front rest >>= λ x. Some (Delete x.0, x.1)

-- the entry whose line is in front in a text of this version, where the next step has this number, and what stands after the line
unfoldable pub entry_front : Version → ℕ → List ℕ → Option (Entry × List ℕ)
entry_front version number bytes = either_entry number bytes (after_deletion_mark version bytes)

-- the entry of a whole line
unfoldable pub entry_of : Version → ℕ → List ℕ → Option Entry
entry_of version number line = entry_front version number line >>= alone

-- the version of a text with this first line
abbrev pub version_of : List ℕ → Option Version
version_of line = if bytes_eq line (codes "ngd 1\n") then Some One else (if bytes_eq line (codes "ngd 2\n") then Some Two else None)

-- an entry that was read, and those after it
abbrev pub with_entry : Option Entry → (Entry → List Entry) → List Entry
with_entry None others = []
with_entry (Some entry) others = entry ∷ others entry

-- the entries of these lines up to the first that is of none, where the next step has this number
abbrev pub entries_from : Version → ℕ → List (List ℕ) → List Entry
entries_from version number [] = []
entries_from version number (line ∷ others) = with_entry (entry_of version number line) (λ entry. entries_from version (next_number number entry) others)

-- the entries of the lines after the first, which is of this version
abbrev pub entries_after : Option Version → List (List ℕ) → List Entry
entries_after None others = []
entries_after (Some version) others = entries_from version 1 others

-- the entries of these lines, the first of which is a head
abbrev pub entries_in : List (List ℕ) → List Entry
entries_in [] = []
entries_in (line ∷ others) = entries_after (version_of line) others

-- the entries of the good lines of a text, up to the first that is no entry's
abbrev pub good_entries : List ℕ → List Entry
good_entries text = entries_in (lines text)
