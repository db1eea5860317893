-- What a line of words promises.
use Rattle.std.specs.Prelude.{◌≡◌, ◌⊎◌, ℕ, List, [], ◌∷◌, ◌++◌, map, Option, Some, None, ⊤}
use Rattle.dcsp_outside.specs.Handed.{Handed, name_of, Fits}
use Rattle.dcsp_outside.specs.Outside.{Place, Stream, Told, HasRefused, AddsPartOf, bytes_of}
use Rattle.dcsp_script.specs.Scripts.{Write}
use Rattle.dcsp_script.specs.declared.status.Status.{Status}

-- what a command comes to where nothing stops it: its status, its writes in their order, and the line that it says on `err`, if any
pub record Report : Type 0 where
  pub status : Status
  pub script : List Write
  pub said : Option (List ℕ)

-- an answer: nothing is said on `err`
abbrev pub answered : Status → List Write → Report
answered status script = record { status = status; script = script; said = None }

-- refused input: nothing is written, and the reason is said on `err`
abbrev pub refused : Status → List ℕ → Report
refused status text = record { status = status; script = []; said = Some text }

-- what a line of words promises
pub record Promise : Type 1 where
  -- the names that it fetches, in their order
  pub fetched : List (List ℕ)
  -- the names that it creates
  pub created : List (List ℕ)
  -- with these bytes of its first files in hand, it fetches this name next
  pub Fetches : List (List ℕ) → List ℕ → Type 0
  -- what it reports of the bytes of its files, which come in the order of `fetched`
  pub Reports : List (List ℕ) → Report → Type 0

-- these are the bytes under the name, where the folder tells them
abbrev pub IsHeld : Option (List ℕ → Option (List ℕ)) → List ℕ → List ℕ → Type 0
IsHeld None name bytes = ⊤
IsHeld (Some files) name bytes = bytes ≡ bytes_of (files name)

-- each of these answers of fetches is about the name, and a name with these bytes is answered so
abbrev pub TellOf : List ℕ → List ℕ → List Handed → Type 0
TellOf name bytes [] = ⊤
TellOf name bytes (answer ∷ answers) = (name_of answer ≡ name) × Fits bytes answer × TellOf name bytes answers

-- these are the bytes of the name: those that the folder holds, where it tells its files; else those that it handed over meanwhile
abbrev pub AreBytesOf : Option (List ℕ → Option (List ℕ)) → List Handed → List Handed → List ℕ → List ℕ → Type 0
AreBytesOf (Some files) old new name bytes = bytes ≡ bytes_of (files name)
AreBytesOf None old new name bytes = (answers : List Handed) × (new ≡ old ++ answers) × TellOf name bytes answers

-- the same of several names, which the folder handed over one after the other, and nothing else meanwhile
abbrev pub AreInputsOf : Option (List ℕ → Option (List ℕ)) → List Handed → List Handed → List (List ℕ) → List (List ℕ) → Type 0
AreInputsOf files old new [] [] = new ≡ old
AreInputsOf files old new [] (bytes ∷ inputs) = ⊥
AreInputsOf files old new (name ∷ names) [] = ⊥
AreInputsOf files old new (name ∷ names) (bytes ∷ inputs) =
    (mid : List Handed) × AreBytesOf files old mid name bytes × AreInputsOf files mid new names inputs

-- these are the bytes of the name that was read between these two moments of the folder
abbrev pub IsFetched : Place → Place → List ℕ → List ℕ → Type 0
IsFetched old new name bytes = AreBytesOf old.held old.handed new.handed name bytes

-- these are the bytes of the names that were read between them, one after the other
abbrev pub AreFetched : Place → Place → List (List ℕ) → List (List ℕ) → Type 0
AreFetched old new names inputs = AreInputsOf old.held old.handed new.handed names inputs

-- the bytes under each of the names
abbrev pub inputs_of : (List ℕ → Option (List ℕ)) → List (List ℕ) → List (List ℕ)
inputs_of files names = map (λ name. bytes_of (files name)) names

-- the line was put; or the stream refused it, which it counted, and some first bytes of it, or none, went last
abbrev pub IsSaid : List ℕ → Stream → Stream → Type 0
IsSaid line before now =
    Told before.written now.written (λ old new. (new ≡ old ++ line) ⊎ (HasRefused before now × AddsPartOf line old new))

-- what a report says was said, and nothing was put where it says nothing
abbrev pub SaysAsReported : Option (List ℕ) → Stream → Stream → Type 0
SaysAsReported None before now = now ≡ before
SaysAsReported (Some line) before now = IsSaid line before now
