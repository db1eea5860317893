-- What selection in order comes to: each thing is chosen or left, in its order, and exactly so many are chosen.
use Rattle.std.specs.Prelude.{◌≡◌, ℕ, ◌-◌, ◌*◌, ◌≤◌, true, false, List, [], ◌∷◌, length}
use Rattle.dcsp_gen.specs.Problems.{pairs}
use Rattle.dcsp_gen.specs.Selection.{selected}
use Rattle.dcsp_gen.specs.Binary.{value_pairs}

-- the things of both lists are these, each list in their order
pub data IsDealt {X : Type 0} : List X → List X → List X → Type 0 where
  nothing : IsDealt [] [] []
  to_first : {x : X} {first second things : List X} → IsDealt first second things → IsDealt (x ∷ first) second (x ∷ things)
  to_second : {x : X} {first second things : List X} → IsDealt first second things → IsDealt first (x ∷ second) (x ∷ things)

-- those that are chosen and those that are not are dealt from the things, and exactly so many are chosen
pub record IsExact {X : Type 0} (words : ℕ → ℕ) (wanted : ℕ) (things : List X) : Type 0 where
  pub dealt : IsDealt (selected true words wanted things) (selected false words wanted things) things
  pub many : length (selected true words wanted things) ≡ wanted
  pub others : length (selected false words wanted things) ≡ length things - wanted

-- Where there are as many things as are wanted, selection is exact, whatever the words.
abbrev pub SelectionIsExact : Type 0 → Type 0
SelectionIsExact X = (words : ℕ → ℕ) (wanted : ℕ) (things : List X) → wanted ≤ length things → IsExact words wanted things

-- There are n(n-1)/2 pairs of n variables, and d² pairs of d values.
pub record PairsAreMany : Type 0 where
  pub variables : (n : ℕ) → 2 * length (pairs n) ≡ n * (n - 1)
  pub values : (d : ℕ) → length (value_pairs d) ≡ d * d
