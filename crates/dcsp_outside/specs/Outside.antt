-- What the calls of a folder and of a sink do.
use Rattle.std.specs.Prelude.{◌≡◌, ◌≢◌, ℕ, ◌+◌, ◌-◌, ◌^◌, ◌<◌, ◌≤◌, min, List, [], ◌∷◌, ◌++◌, length, take, drop, ◌⊎◌, Option, Some, None, unwrap_or, Result, Ok, Err, ⊤}
use Rattle.dcsp_outside.specs.declared.folder.Fetched.{Fetched}
use Rattle.dcsp_outside.specs.declared.folder.Fetched.TheVariants.{Whole, Long}
use Rattle.dcsp_outside.specs.declared.folder.Piece.{Piece}
use Rattle.dcsp_outside.specs.declared.folder.Piece.TheVariants.{Part, End}
use Rattle.dcsp_outside.specs.declared.folder.FolderError.{FolderError}
use Rattle.dcsp_outside.specs.declared.folder.FolderError.TheVariants as folder_errors
use Rattle.dcsp_outside.specs.declared.sink.SinkError.{SinkError}
use Rattle.dcsp_outside.specs.declared.sink.SinkError.TheVariants as sink_errors
use Rattle.dcsp_outside.specs.Handed.{Handed, AllOf, MoreThan, PartOf, EndOf}

-- a folder as contracts see it: what is held under each name, where the folder tells it; what answered fetches handed over, in their order; the names that calls of `create` made, in their order; and how many reads and writes of each name have failed
pub record Place : Type 0 where
  pub held : Option (List ℕ → Option (List ℕ))
  pub handed : List Handed
  pub created : List (List ℕ)
  pub reads : List ℕ → ℕ
  pub writes : List ℕ → ℕ

-- a sink as contracts see it: all bytes that were written, where the sink tells them; how many calls have failed; and how many were refused for want of memory
pub record Stream : Type 0 where
  pub written : Option (List ℕ)
  pub faults : ℕ
  pub lacks : ℕ

-- one more, up to the last value of 64 bits, where a count stays
abbrev pub one_more : ℕ → ℕ
one_more count = min (count + 1) (2 ^ 64 - 1)

-- a count rose; one that stands at its last value passes as risen
abbrev pub Rose : ℕ → ℕ → Type 0
Rose before now = one_more before ≤ now

-- no name's count falls
abbrev pub NoneFalls : (List ℕ → ℕ) → (List ℕ → ℕ) → Type 0
NoneFalls before now = (name : List ℕ) → before name ≤ now name

-- every count of the folder, of every name and kind, is as it was
pub record SameCounts (old new : Place) : Type 0 where
  pub reads : new.reads ≡ old.reads
  pub writes : new.writes ≡ old.writes

-- this holds unless the folder failed
abbrev pub UnlessFailed : {T : Type 0} → Result T FolderError → Type 0 → Type 0
UnlessFailed (Ok done) P = P
UnlessFailed (Err folder_errors.Memory) P = P
UnlessFailed (Err folder_errors.Failed) P = ⊤

-- this holds unless the sink failed
abbrev pub UnlessPutFailed : {T : Type 0} → Result T SinkError → Type 0 → Type 0
UnlessPutFailed (Ok done) P = P
UnlessPutFailed (Err sink_errors.Memory) P = P
UnlessPutFailed (Err sink_errors.Failed) P = ⊤

-- this holds unless the sink lacked memory
abbrev pub UnlessPutLacked : {T : Type 0} → Result T SinkError → Type 0 → Type 0
UnlessPutLacked (Ok done) P = P
UnlessPutLacked (Err sink_errors.Memory) P = ⊤
UnlessPutLacked (Err sink_errors.Failed) P = P

-- the sink refused a piece: a count of its refusals rose
abbrev pub HasRefused : Stream → Stream → Type 0
HasRefused before now = Rose before.faults now.faults ⊎ Rose before.lacks now.lacks

-- where the contents are told, the old and the new ones stand so
abbrev pub Told : {A : Type 0} → Option A → Option A → (A → A → Type 0) → Type 0
Told (Some old) (Some new) P = P old new
Told None None P = ⊤
Told (Some old) None P = ⊥
Told None (Some new) P = ⊥

-- the bytes of a name; one that is not held has none
abbrev pub bytes_of : Option (List ℕ) → List ℕ
bytes_of file = unwrap_or file []

-- what is held under this name changes so, and nothing under any other name does
pub record ChangesName (name : List ℕ) (P : Option (List ℕ) → Option (List ℕ) → Type 0) (old new : List ℕ → Option (List ℕ)) : Type 0 where
  pub this : P (old name) (new name)
  pub others : (other : List ℕ) → other ≢ name → new other ≡ old other

-- the first list begins the second
abbrev pub IsPrefixOf : List ℕ → List ℕ → Type 0
IsPrefixOf part whole = (rest : List ℕ) × (part ++ rest ≡ whole)

-- some first bytes of the piece went last
abbrev pub AddsPartOf : List ℕ → List ℕ → List ℕ → Type 0
AddsPartOf piece old new = (part : List ℕ) × IsPrefixOf part piece × (new ≡ old ++ part)

-- a file is as it was, or some first bytes of the piece went last
abbrev pub AppendsPartOf : List ℕ → Option (List ℕ) → Option (List ℕ) → Type 0
AppendsPartOf piece old new = (new ≡ old) ⊎ ((part : List ℕ) × IsPrefixOf part piece × (new ≡ Some (bytes_of old ++ part)))

-- what went last in a list that grew
abbrev pub gained : List ℕ → List ℕ → List ℕ
gained old new = drop (length old) new

-- what a fetch handed over, where it was answered
abbrev pub handed_by : List ℕ → ℕ → List ℕ → Result Fetched FolderError → List Handed
handed_by name most bytes (Ok Whole) = AllOf name bytes ∷ []
handed_by name most bytes (Ok Long) = MoreThan name most ∷ []
handed_by name most bytes (Err e) = []

-- what a fetch of a piece handed over, where it was answered
abbrev pub handed_piece : List ℕ → ℕ → List ℕ → Result Piece FolderError → List Handed
handed_piece name from bytes (Ok Part) = PartOf name from bytes ∷ []
handed_piece name from bytes (Ok End) = EndOf name from bytes ∷ []
handed_piece name from bytes (Err e) = []

-- a fetch of these bytes: all of them go last, or there are more than `most`, or it is refused
abbrev pub Fetches : List ℕ → ℕ → List ℕ → List ℕ → Result Fetched FolderError → Type 0
Fetches bytes most old new (Ok Whole) = (length bytes ≤ most) × (new ≡ old ++ bytes)
Fetches bytes most old new (Ok Long) = (most < length bytes) × (new ≡ old)
Fetches bytes most old new (Err e) = new ≡ old

-- whatever a folder holds, a fetch adds at most so many bytes, and only where it says so
abbrev pub AddsUpTo : ℕ → List ℕ → List ℕ → Result Fetched FolderError → Type 0
AddsUpTo most old new (Ok Whole) = (bytes : List ℕ) × (length bytes ≤ most) × (new ≡ old ++ bytes)
AddsUpTo most old new (Ok Long) = new ≡ old
AddsUpTo most old new (Err e) = new ≡ old

-- a fetch of a piece of these bytes: `most` of them from a place on go last, or all that are left there where they are fewer, or it is refused
abbrev pub FetchesPiece : List ℕ → ℕ → ℕ → List ℕ → List ℕ → Result Piece FolderError → Type 0
FetchesPiece bytes from most old new (Ok Part) = (from + most ≤ length bytes) × (new ≡ old ++ take most (drop from bytes))
FetchesPiece bytes from most old new (Ok End) = (length bytes < from + most) × (new ≡ old ++ drop from bytes)
FetchesPiece bytes from most old new (Err e) = new ≡ old

-- whatever a folder holds, a piece has `most` bytes, or fewer where the bytes end
abbrev pub AddsPiece : ℕ → List ℕ → List ℕ → Result Piece FolderError → Type 0
AddsPiece most old new (Ok Part) = (bytes : List ℕ) × (length bytes ≡ most) × (new ≡ old ++ bytes)
AddsPiece most old new (Ok End) = (bytes : List ℕ) × (length bytes < most) × (new ≡ old ++ bytes)
AddsPiece most old new (Err e) = new ≡ old

-- exactly these bytes went last in a file; without any it is as it was
abbrev pub AppendsExactly : List ℕ → Option (List ℕ) → Option (List ℕ) → Type 0
AppendsExactly [] old new = new ≡ old
AppendsExactly (b ∷ bytes) old new = new ≡ Some (bytes_of old ++ b ∷ bytes)
