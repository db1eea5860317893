-- What was appended to a file, and what of it waits.
use Rattle.std.specs.Prelude.{◌≡◌, ℕ, List, [], Option, Some, None, All, Contains, slice_get, slice_set, string_bytes, vec_len}
use Rattle.std.specs.Io.KnownBytes.{append_known, Appends, Keeps, IsAtEnd}
use Rattle.abt_files.specs.declared.disk.FileId.{FileId}
use Rattle.abt_files.specs.declared.open_files.OpenFile.{OpenFile}

-- what a handle holds, where it tells it
abbrev pub held_by : {W : Type 0} → (W → Option (List ℕ)) → Option W → Option (List ℕ)
held_by contents None = None
held_by contents (Some file) = contents file

-- all that was appended to a file since it was created: what it holds, and then what waits
abbrev pub text_of : {W : Type 0} → (W → Option (List ℕ)) → OpenFile W → Option (List ℕ)
text_of contents file = append_known (held_by contents file.file) file.waiting.items

-- nothing waits for any file
abbrev pub NoneWaits : {W : Type 0} → List (OpenFile W) → Type 0
NoneWaits files = All (λ file. vec_len file.waiting ≡ 0) files

-- it is one of these regular files
abbrev pub IsAmong : Option FileId → List FileId → Type 0
IsAmong None ids = ⊥
IsAmong (Some id) ids = Contains ids id

-- the file at this place has this name
pub record IsNamed {W : Type 0} (name : List ℕ) (files : List (OpenFile W)) (place : ℕ) : Type 0 where
  pub file : OpenFile W
  pub is : slice_get files place ≡ Some file
  pub named : string_bytes file.name ≡ name

-- each file of before stands where it stood, and as it was
abbrev pub KeepsFiles : {W : Type 0} → (old new : List (OpenFile W)) → Type 0
KeepsFiles {W} old new = (place : ℕ) (file : OpenFile W) → slice_get old place ≡ Some file → slice_get new place ≡ Some file

-- a file has the name and the text that it had
pub record KeepsText {W : Type 0} (contents : W → Option (List ℕ)) (old new : OpenFile W) : Type 0 where
  pub name : new.name ≡ old.name
  pub text : Keeps (text_of contents old) (text_of contents new)

-- each file of before stands where it stood, and has its name and its text
abbrev pub KeepTexts : {W : Type 0} → (W → Option (List ℕ)) → (old new : List (OpenFile W)) → Type 0
KeepTexts {W} contents old new = (place : ℕ) (file : OpenFile W) → slice_get old place ≡ Some file → (now : OpenFile W) × (slice_get new place ≡ Some now) × KeepsText contents file now

-- the text of one file of this name has these bytes more, and no other file changed
pub record AppendsTo {W : Type 0} (contents : W → Option (List ℕ)) (name bytes : List ℕ) (old new : List (OpenFile W)) : Type 0 where
  pub place : ℕ
  pub at : IsNamed name old place
  pub file : OpenFile W
  pub new_is : new ≡ slice_set old place file
  pub same_name : file.name ≡ at.file.name
  pub appends : Appends (text_of contents at.file) (text_of contents file) bytes

-- a file of this name was made, which has no bytes and for which nothing waits, and no other file of before changed
pub record MadeFresh {W : Type 0} (contents : W → Option (List ℕ)) (name : List ℕ) (old new : List (OpenFile W)) : Type 0 where
  pub place : ℕ
  pub at : IsNamed name new place
  pub empty : IsAtEnd (held_by contents at.file.file)
  pub waits : at.file.waiting.items ≡ []
  pub others : (other : ℕ) → (other ≡ place → ⊥) → (file : OpenFile W) → slice_get old other ≡ Some file → slice_get new other ≡ Some file
