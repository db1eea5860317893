-- What a script writes under one name.
use Rattle.std.specs.Prelude.{◌≡◌, ◌⊎◌, Option, Some, ℕ, List, [], ◌∷◌, ◌++◌, if◌then◌else◌, ⊤}
use Rattle.std.specs.Str.{bytes_eq}
use Rattle.dcsp_outside.specs.Outside.{IsPrefixOf}
use Rattle.dcsp_script.specs.Scripts.{Write, Create, Empty, Append, Put}

-- a write changes what is under this name
abbrev pub Touches : Write → List ℕ → Type 0
Touches (Create this) name = this ≡ name
Touches (Empty this) name = this ≡ name
Touches (Append this bytes) name = this ≡ name
Touches (Put bytes) name = ⊥

-- no write of a script changes what is under this name
abbrev pub LeavesAlone : List Write → List ℕ → Type 0
LeavesAlone [] name = ⊤
LeavesAlone (write ∷ script) name = (Touches write name → ⊥) × LeavesAlone script name

-- a write does not create or empty this name
abbrev pub IsKept : Write → List ℕ → Type 0
IsKept (Create this) name = this ≡ name → ⊥
IsKept (Empty this) name = this ≡ name → ⊥
IsKept (Append this bytes) name = ⊤
IsKept (Put bytes) name = ⊤

-- no write of a script creates or empties this name
abbrev pub OnlyAppends : List Write → List ℕ → Type 0
OnlyAppends [] name = ⊤
OnlyAppends (write ∷ script) name = IsKept write name × OnlyAppends script name

-- what a write appends under a name
abbrev pub appended_of : Write → List ℕ → List ℕ
appended_of (Create this) name = []
appended_of (Empty this) name = []
appended_of (Append this bytes) name = if bytes_eq name this then bytes else []
appended_of (Put bytes) name = []

-- what a script appends under a name
abbrev pub appended_by : List Write → List ℕ → List ℕ
appended_by [] name = []
appended_by (write ∷ script) name = appended_of write name ++ appended_by script name

-- where the name was created, it holds a first part of the text; where it was not, it is as before or holds no bytes
pub record HoldsPartOf (name text : List ℕ) (IsCreated : Type 0) (old new : Option (List ℕ)) : Type 0 where
  pub created : IsCreated → (held : List ℕ) × IsPrefixOf held text × (new ≡ Some held)
  pub uncreated : (IsCreated → ⊥) → (new ≡ old) ⊎ (new ≡ Some [])
