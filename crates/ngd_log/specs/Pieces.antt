-- A log that is read in pieces: what the reader stands for, when it refuses, and what it appends.
use Rattle.std.specs.Prelude.{◌≡◌, ◌≢◌, if◌then◌else◌, ℕ, ◌+◌, ◌-◌, ◌<◌, ◌≤◌, ◌⊎◌, List, [], ◌∷◌, ◌++◌, length, codes, flat_map, slice_get, Vec, Option, Some, None, IsSomeAnd, Result, Err, IsOk}
use Rattle.std.specs.List.{AllByRecursion, concat}
use Rattle.dcsp_defs.specs.declared.entry.Entry.{Entry}
use Rattle.ngd_log.specs.declared.log.LogError.{LogError}
use Rattle.ngd_log.specs.declared.log.LogError.TheVariants.{Line, Memory}
use Rattle.ngd_log.specs.declared.body.ReaderBody.{ReaderBody}
use Rattle.ngd_log.specs.declared.standing.Version.{Version}
use Rattle.ngd_log.specs.declared.standing.EntryKind.{EntryKind}
use Rattle.ngd_log.specs.declared.standing.Place.{Place}
use Rattle.ngd_log.specs.declared.standing.Standing.{Standing}
use Rattle.ngd_log.specs.declared.standing.Standing.TheVariants.{Start, Inside, Ended, Refused}
use Rattle.ngd_log.specs.Lines.{lines, HasNoLineFeed, IsLine}
use Rattle.ngd_log.specs.Entries.{steps_of}
use Rattle.ngd_log.specs.Lent.{is_step, lent_in, RisesIn}
use Rattle.ngd_log.specs.EntryTexts.{head, entry_lines, entries_text, HaveText, IsTextOf, IsLogOfEntries, IsEntryLine, IsFirstBadLine}
use Rattle.ngd_log.specs.EntryReading.{entry_of, good_entries, version_of}

-- the pieces, one after the other
abbrev pub joined : {Z : Type 0} → List (Vec ℕ Z) → List ℕ
joined pieces = flat_map (λ piece. piece.items) pieces

-- what a reader keeps: where it stands after the whole lines, the bytes after the last line feed, how many bytes were fed, and the entry of the line taken last, if it has one
pub record Kept : Type 0 where
  pub standing : Standing
  pub part : List ℕ
  pub fed : ℕ
  pub lent : List Entry

-- the same, of the reader's fields
abbrev pub kept : ReaderBody → Kept
kept body = record { standing = body.standing; part = body.part.items; fed = body.fed; lent = lent_in body.kind body.gathered }

-- the same reader, which lends nothing
abbrev pub unheard : Kept → Kept
unheard reader = record { standing = reader.standing; part = reader.part; fed = reader.fed; lent = [] }

-- the refusal that stands
abbrev pub refusal_of : Standing → Option LogError
refusal_of Start = None
refusal_of (Inside place) = None
refusal_of (Ended number) = None
refusal_of (Refused error) = Some error

-- why the text ends badly here: the line at hand is missing or unfinished, or a refusal stands
abbrev pub fault_of : Standing → Option LogError
fault_of Start = Some (Line 1)
fault_of (Inside place) = Some (Line place.line)
fault_of (Ended number) = None
fault_of (Refused error) = Some error

-- the error that is there is answered
abbrev pub Tells : Option LogError → Result (Unit {0}) LogError → Type 0
Tells None result = IsOk result
Tells (Some error) result = result ≡ Err error

-- the text before its last line
abbrev pub open_text : Version → List Entry → List ℕ
open_text version entries = head version ++ concat (entry_lines 1 entries)

-- the whole lines are the head and those of the entries
pub record IsInside (place : Place) (text : List ℕ) (entries : List Entry) : Type 0 where
  pub writable : HaveText place.version entries
  pub same : text ≡ open_text place.version entries
  pub step : place.step ≡ length (steps_of entries) + 1
  pub line : place.line ≡ length entries + 2

-- the whole lines are those of the entries, with `end`; a line after it would have this number
pub record IsEnded (number : ℕ) (text : List ℕ) (entries : List Entry) : Type 0 where
  pub version : Version
  pub whole : IsTextOf text version entries
  pub line : number ≡ length entries + 3

-- the text begins with a whole line that is no head
pub record HasNoHead (text : List ℕ) (entries : List Entry) (number : ℕ) : Type 0 where
  pub line : List ℕ
  pub more : List ℕ
  pub same : text ≡ line ++ more
  pub whole : IsLine line
  pub no_head : version_of line ≡ None
  pub none : entries ≡ []
  pub numbered : number ≡ 1

-- after the lines of the entries comes a whole line that is neither the next entry's nor `end`
pub record HasNoEntry (text : List ℕ) (entries : List Entry) (number : ℕ) : Type 0 where
  pub version : Version
  pub writable : HaveText version entries
  pub line : List ℕ
  pub more : List ℕ
  pub same : text ≡ open_text version entries ++ (line ++ more)
  pub whole : IsLine line
  pub no_entry : entry_of version (length (steps_of entries) + 1) line ≡ None
  pub no_end : line ≡ codes "end\n" → ⊥
  pub numbered : number ≡ length entries + 2

-- after the lines of the entries and `end` comes a byte
pub record HasMore (text : List ℕ) (entries : List Entry) (number : ℕ) : Type 0 where
  pub version : Version
  pub writable : HaveText version entries
  pub more : List ℕ
  pub some : 0 < length more
  pub same : text ≡ entries_text version entries ++ more
  pub numbered : number ≡ length entries + 3

-- why no more of the text can help, with the entries of the good lines and the number of the bad line
abbrev pub IsStuck : List ℕ → List Entry → ℕ → Type 0
IsStuck text entries number = HasNoHead text entries number ⊎ HasNoEntry text entries number ⊎ HasMore text entries number

-- where these whole lines lead, which have these entries
abbrev pub Stands : Standing → List ℕ → List Entry → Type 0
Stands Start text entries = (text ≡ []) × (entries ≡ [])
Stands (Inside place) text entries = IsInside place text entries
Stands (Ended number) text entries = IsEnded number text entries
Stands (Refused (Line number)) text entries = IsStuck text entries number
Stands (Refused Memory) text entries = Unit {0}

-- what can be kept of the line at hand
abbrev pub IsPart : Standing → List ℕ → Type 0
IsPart Start part = HasNoLineFeed part
IsPart (Inside place) part = HasNoLineFeed part
IsPart (Ended number) part = part ≡ []
IsPart (Refused error) part = part ≡ []

-- where a text leads that has these entries in its good lines: to what its whole lines lead to, with the bytes after them kept
pub record IsAt (standing : Standing) (part text : List ℕ) (entries : List Entry) : Type 0 where
  pub whole : List ℕ
  pub same : text ≡ whole ++ part
  pub stands : Stands standing whole entries
  pub fits : IsPart standing part

-- the reader was fed the text
pub record IsFed (reader : Kept) (text : List ℕ) : Type 0 where
  pub fed : reader.fed ≡ length text
  pub entries : List Entry
  pub leads : IsAt reader.standing reader.part text entries

-- the line numbers and step numbers at hand are no more than the bytes that were fed
abbrev pub IsWithin : Standing → ℕ → Type 0
IsWithin Start fed = Unit {0}
IsWithin (Inside place) fed = (place.step < place.line) × (place.line ≤ fed + 1)
IsWithin (Ended number) fed = number ≤ fed + 1
IsWithin (Refused error) fed = Unit {0}

-- what holds of each reader: the bytes at hand have no line feed, and the pairs of a step that is lent rise
pub record IsSound (reader : Kept) : Type 0 where
  pub within : IsWithin reader.standing reader.fed
  pub plain : HasNoLineFeed reader.part
  pub rising : AllByRecursion RisesIn reader.lent

-- an entry is lent only where no refusal stood, and after it no bytes are at hand
pub record IsLentAlone (old new : Kept) : Type 0 where
  pub going : (error : LogError) → old.standing ≡ Refused error → new.lent ≡ []
  pub whole : new.lent ≢ [] → new.part ≡ []

-- the place after the line of an entry of this kind
pub record IsNextPlace (place : Place) (kind : EntryKind) (next : Place) : Type 0 where
  pub version : next.version ≡ place.version
  pub step : next.step ≡ (if is_step kind then place.step + 1 else place.step)
  pub line : next.line ≡ place.line + 1

-- a call took this piece: it appended entries, and wherever the reader stood, it stands where the text with the piece leads; a refusal stays
pub record Feeds (old new : Kept) (piece : List ℕ) (before after : List Entry) : Type 0 where
  pub appended : List Entry
  pub same : after ≡ before ++ appended
  pub fed : new.fed ≡ old.fed + length piece
  pub stands : (text : List ℕ) (entries : List Entry) → IsAt old.standing old.part text entries → IsAt new.standing new.part (text ++ piece) (entries ++ appended)
  pub stays : (error : LogError) → old.standing ≡ Refused error → new.standing ≡ Refused error

-- the same of the front of a piece, with this rest
pub record FeedsFront (old new : Kept) (piece rest : List ℕ) (before after : List Entry) : Type 0 where
  pub front : List ℕ
  pub parts : piece ≡ front ++ rest
  pub feeds : Feeds old new front before after

-- the same for a whole line alone
pub record Follows (old new : Standing) (line : List ℕ) (before after : List Entry) : Type 0 where
  pub appended : List Entry
  pub same : after ≡ before ++ appended
  pub stands : (text : List ℕ) (entries : List Entry) → Stands old text entries → Stands new (text ++ line) (entries ++ appended)

-- a call took the front of a piece, which leaves this rest, and lends the entry of the line that the front completes, if it completes one
pub record TakesFront (old new : Kept) (piece rest : List ℕ) : Type 0 where
  pub front : List ℕ
  pub parts : piece ≡ front ++ rest
  pub counted : new.fed ≡ old.fed + length front
  pub fed : (text : List ℕ) → IsFed old text → IsFed new (text ++ front)
  pub entries : (text : List ℕ) → IsFed old text → good_entries text ++ new.lent ≡ good_entries (text ++ front)

-- what was appended are the entries of the lines that the piece completes
pub record Completes (text piece : List ℕ) (before after : List Entry) : Type 0 where
  pub appended : List Entry
  pub same : after ≡ before ++ appended
  pub entries : good_entries text ++ appended ≡ good_entries (text ++ piece)

-- the text goes on after the line `end`
pub record GoesOn (text : List ℕ) : Type 0 where
  pub version : Version
  pub entries : List Entry
  pub writable : HaveText version entries
  pub more : List ℕ
  pub some : 0 < length more
  pub same : text ≡ entries_text version entries ++ more

-- the line with this number, counted from 1, has its line feed
abbrev pub IsWhole : List ℕ → ℕ → Type 0
IsWhole text number = IsSomeAnd (slice_get (lines text) (number - 1)) IsLine

-- no more of the text can help: its first bad line has its line feed, or a byte follows the line `end`
pub record IsRefused (text : List ℕ) (number : ℕ) : Type 0 where
  pub first : IsFirstBadLine text number
  pub sure : IsWhole text number ⊎ GoesOn text

-- lines, of which the first is not that of an entry of this version, where the next step has this number
abbrev pub IsNoEntryNext : Version → ℕ → List (List ℕ) → Type 0
IsNoEntryNext version number [] = Unit {0}
IsNoEntryNext version number (line ∷ others) = (entry : Entry) → IsEntryLine version number line entry → ⊥

-- the lines begin with a head and the lines of these entries, and then comes no further entry's
pub record IsLongest (text : List ℕ) (entries : List Entry) : Type 0 where
  pub version : Version
  pub writable : HaveText version entries
  pub others : List (List ℕ)
  pub front : lines text ≡ (head version ∷ entry_lines 1 entries) ++ others
  pub no_more : IsNoEntryNext version (length (steps_of entries) + 1) others

-- the first line is no head, and there are no entries
pub record IsHeadless (text : List ℕ) (entries : List Entry) : Type 0 where
  pub no_head : (version : Version) (others : List (List ℕ)) → lines text ≡ head version ∷ others → ⊥
  pub none : entries ≡ []

-- The entries of the good lines are all those in front, and all of a log's.
pub record GoodLines (text : List ℕ) : Type 0 where
  pub front : IsLongest text (good_entries text) ⊎ IsHeadless text (good_entries text)
  pub log : (entries : List Entry) → IsLogOfEntries text entries → good_entries text ≡ entries
