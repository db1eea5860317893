-- Names, and what they stand for.
use Rattle.std.specs.Prelude.{◌≡◌, ◌<◌, ◌≤◌, ◌+◌, ℕ, List, [], ◌∷◌, length, slice_index, slice_range, Option, None, Some, if◌then◌else◌, ◌||◌, nat_lt}
use Rattle.std.specs.Str.{bytes_eq}
use Rattle.fzn_scope.specs.declared.names.Declared.{Declared}

-- the names that were declared, in order, with what each stands for
abbrev pub Scope : Type 0
Scope = List (List ℕ × Declared)

-- what the name stands for: the names are looked up in a plain list
abbrev pub declared_as : Scope → List ℕ → Option Declared
declared_as [] name = None
declared_as (d ∷ ds) name = if bytes_eq name d.0 then Some d.1 else declared_as ds name

-- the bytes of the text from one place up to another; none where these are no places of the text in order
abbrev pub bytes_at : List ℕ → ℕ → ℕ → List ℕ
bytes_at text from to = if nat_lt to from || nat_lt (length text) to then [] else slice_range text from to

-- eight bytes from a place on are the same
abbrev pub AreEightSame : List ℕ → List ℕ → ℕ → Type 0
AreEightSame xs ys at = (i : ℕ) → at ≤ i → i < at + 8 → slice_index xs i ≡ slice_index ys i
