-- What a command does to the outside, as a list of writes, and what stands after them.
use Rattle.std.specs.Prelude.{◌≡◌, ℕ, List, [], ◌∷◌, ◌++◌, Option, Some, if◌then◌else◌}
use Rattle.std.specs.Str.{bytes_eq}
use Rattle.dcsp_outside.specs.Outside.{Place, Stream, Told, bytes_of}

-- one write: a name is made held with no bytes, bytes go last under a name, or bytes go last on `out`; `Empty` is all that a `Create` that failed may leave, and stands in no script
pub data Write : Type 0 where
  Create : (name : List ℕ) → Write
  Empty : (name : List ℕ) → Write
  Append : (name : List ℕ) → (bytes : List ℕ) → Write
  Put : (bytes : List ℕ) → Write

-- the outside of a command: its folder, and the sink that takes its answers
pub record World : Type 0 where
  pub folder : Place
  pub out : Stream

-- this folder and this sink
abbrev pub outside : Place → Stream → World
outside folder out = record { folder = folder; out = out }

-- what one write makes of the file under a name
abbrev pub after_write : Write → List ℕ → Option (List ℕ) → Option (List ℕ)
after_write (Create this) name file = if bytes_eq name this then Some [] else file
after_write (Empty this) name file = if bytes_eq name this then Some [] else file
after_write (Append this bytes) name file = if bytes_eq name this then Some (bytes_of file ++ bytes) else file
after_write (Put bytes) name file = file

-- what a script makes of the file under a name
abbrev pub file_after : List Write → List ℕ → Option (List ℕ) → Option (List ℕ)
file_after [] name file = file
file_after (write ∷ script) name file = file_after script name (after_write write name file)

-- what a write puts on `out`
abbrev pub put_of : Write → List ℕ
put_of (Create name) = []
put_of (Empty name) = []
put_of (Append name bytes) = []
put_of (Put bytes) = bytes

-- what a script puts on `out`
abbrev pub put_by : List Write → List ℕ
put_by [] = []
put_by (write ∷ script) = put_of write ++ put_by script

-- the name that a write creates
abbrev pub created_of : Write → List (List ℕ)
created_of (Create name) = name ∷ []
created_of (Empty name) = []
created_of (Append name bytes) = []
created_of (Put bytes) = []

-- the names that a script creates, in order
abbrev pub created_by : List Write → List (List ℕ)
created_by [] = []
created_by (write ∷ script) = created_of write ++ created_by script

-- the files after a script
abbrev pub FilesAfter : List Write → (List ℕ → Option (List ℕ)) → (List ℕ → Option (List ℕ)) → Type 0
FilesAfter script old new = (name : List ℕ) → new name ≡ file_after script name (old name)

-- what was written on `out` after a script
abbrev pub PutAfter : List Write → List ℕ → List ℕ → Type 0
PutAfter script old new = new ≡ old ++ put_by script

-- exactly these writes were made
pub record IsAfter (script : List Write) (old new : World) : Type 0 where
  pub files : Told old.folder.held new.folder.held (FilesAfter script)
  pub out : Told old.out.written new.out.written (PutAfter script)
  pub created : new.folder.created ≡ old.folder.created ++ created_by script
