-- What a folder has handed over: the answers of fetches that went through.
use Rattle.std.specs.Prelude.{◌≡◌, ℕ, ◌+◌, ◌<◌, ◌≤◌, List, [], ◌∷◌, length, take, drop, ⊤}

-- one answer of a fetch: all bytes of a name, that it has more than so many, as many bytes of it from a place on as were asked for, or those from a place on to its end
pub data Handed : Type 0 where
  AllOf : (name : List ℕ) → (bytes : List ℕ) → Handed
  MoreThan : (name : List ℕ) → (most : ℕ) → Handed
  PartOf : (name : List ℕ) → (from : ℕ) → (piece : List ℕ) → Handed
  EndOf : (name : List ℕ) → (from : ℕ) → (piece : List ℕ) → Handed

-- the name that an answer speaks of
abbrev pub name_of : Handed → List ℕ
name_of (AllOf name bytes) = name
name_of (MoreThan name most) = name
name_of (PartOf name from piece) = name
name_of (EndOf name from piece) = name

-- a name with these bytes is answered so
abbrev pub Fits : List ℕ → Handed → Type 0
Fits bytes (AllOf name all) = bytes ≡ all
Fits bytes (MoreThan name most) = most < length bytes
Fits bytes (PartOf name from piece) = (from + length piece ≤ length bytes) × (piece ≡ take (length piece) (drop from bytes))
Fits bytes (EndOf name from piece) = drop from bytes ≡ piece

-- these bytes of the name fit each answer that speaks of it
abbrev pub FitsEach : List ℕ → List ℕ → List Handed → Type 0
FitsEach name bytes [] = ⊤
FitsEach name bytes (answer ∷ handed) = (name_of answer ≡ name → Fits bytes answer) × FitsEach name bytes handed
