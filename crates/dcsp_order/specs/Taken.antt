-- Numbers that are taken one after the other, beside a flag for each number that is.
use Rattle.std.specs.Prelude.{◌≡◌, ℕ, ◌<◌, Bool, true, false, List, [], ◌∷◌, ◌++◌, length, slice_index_or}
use Rattle.dcsp_defs.specs.Words.{In}
use Rattle.dcsp_order.specs.ByRule.{is_among}

-- whether the flag at this place is set
abbrev pub flag_at : List Bool → ℕ → Bool
flag_at flags place = slice_index_or flags place false

-- the flags that are set are those of these numbers
abbrev pub AreTaken : List ℕ → List Bool → Type 0
AreTaken numbers taken = (k : ℕ) → k < length taken → flag_at taken k ≡ is_among k numbers

-- a number that is new is added at the end, and its flag is set; one that is among them is refused
abbrev pub Takes : Bool → ℕ → List ℕ → List ℕ → List Bool → List Bool → Type 0
Takes true number old new before after =
    (In number old → ⊥) × (new ≡ old ++ number ∷ []) × (length after ≡ length before) × AreTaken new after
Takes false number old new before after = In number old
