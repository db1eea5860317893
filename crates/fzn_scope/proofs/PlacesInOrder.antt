-- The places of a constraint's form stand in order: at most a first list, a second one behind it, and one set.
use Rattle.std.proofs.Common.{◌≡◌, ℕ, ◌≤◌, ◌==◌, Bool, true, false, ◌&&◌, List, [], ◌∷◌, length, refl, arith}
use Rattle.std.specs.Prelude.{if◌then◌else◌}
use Rattle.dcsp_meaning.specs.declared.kinds.ConstraintKind.TheVariants as kind
use Rattle.fzn_scope.specs.declared.form.Place.{Place}
use Rattle.fzn_scope.specs.declared.form.Place.TheVariants as place
use Rattle.fzn_scope.specs.declared.form.Form.{Form}
use Rattle.fzn_scope.specs.declared.form.Form.TheVariants.{Plain, Sum}
use Rattle.fzn_scope.specs.Forms.{truth, places_of}

-- so many lists and sets stand before these places, of which at most one is a first list, then a second, and one a set
abbrev pub is_ordered : ℕ → ℕ → List Place → Bool
is_ordered n m [] = true
is_ordered n m (place.Scalar boolean ∷ ps) = is_ordered n m ps
is_ordered n m (place.First wanted ∷ ps) = (n == 0) && is_ordered 1 m ps
is_ordered n m (place.Second wanted ∷ ps) = (n == 1) && is_ordered 2 m ps
is_ordered n m (place.Set ∷ ps) = (m == 0) && is_ordered n 1 ps

-- each first list is of constants
abbrev pub are_constant : List Place → Bool
are_constant [] = true
are_constant (place.Scalar boolean ∷ ps) = are_constant ps
are_constant (place.First wanted ∷ ps) = wanted.constant && are_constant ps
are_constant (place.Second wanted ∷ ps) = are_constant ps
are_constant (place.Set ∷ ps) = are_constant ps

-- the places of a form stand in order, and there are few
pub record AreInOrder (places : List Place) : Type 0 where
  pub ordered : is_ordered 0 0 places ≡ true
  pub few : length places ≤ 4

pub in_order : (form : Form) (count : ℕ) → AreInOrder (places_of form count)
in_order (Plain kind.IntEq) count = record { ordered = refl; few = omega arith }
in_order (Plain kind.IntEqReif) count = record { ordered = refl; few = omega arith }
in_order (Plain kind.IntNe) count = record { ordered = refl; few = omega arith }
in_order (Plain kind.IntNeReif) count = record { ordered = refl; few = omega arith }
in_order (Plain kind.IntLe) count = record { ordered = refl; few = omega arith }
in_order (Plain kind.IntLeReif) count = record { ordered = refl; few = omega arith }
in_order (Plain kind.IntLt) count = record { ordered = refl; few = omega arith }
in_order (Plain kind.IntLtReif) count = record { ordered = refl; few = omega arith }
in_order (Plain kind.IntPlus) count = record { ordered = refl; few = omega arith }
in_order (Plain kind.IntTimes) count = record { ordered = refl; few = omega arith }
in_order (Plain kind.IntMin) count = record { ordered = refl; few = omega arith }
in_order (Plain kind.IntMax) count = record { ordered = refl; few = omega arith }
in_order (Plain kind.IntAbs) count = record { ordered = refl; few = omega arith }
in_order (Plain kind.IntDiv) count = record { ordered = refl; few = omega arith }
in_order (Plain kind.IntMod) count = record { ordered = refl; few = omega arith }
in_order (Plain kind.BoolEq) count = record { ordered = refl; few = omega arith }
in_order (Plain kind.BoolEqReif) count = record { ordered = refl; few = omega arith }
in_order (Plain kind.BoolLe) count = record { ordered = refl; few = omega arith }
in_order (Plain kind.BoolLeReif) count = record { ordered = refl; few = omega arith }
in_order (Plain kind.BoolLt) count = record { ordered = refl; few = omega arith }
in_order (Plain kind.BoolLtReif) count = record { ordered = refl; few = omega arith }
in_order (Plain kind.BoolNot) count = record { ordered = refl; few = omega arith }
in_order (Plain kind.BoolAnd) count = record { ordered = refl; few = omega arith }
in_order (Plain kind.BoolOr) count = record { ordered = refl; few = omega arith }
in_order (Plain kind.BoolXor) count = elim (count == 2) as (λ b. AreInOrder (if b then truth ∷ truth ∷ [] else truth ∷ truth ∷ truth ∷ [])) [ true ↦ record { ordered = refl; few = omega arith } | false ↦ record { ordered = refl; few = omega arith } ]
in_order (Plain kind.Bool2int) count = record { ordered = refl; few = omega arith }
in_order (Plain kind.BoolClause) count = record { ordered = refl; few = omega arith }
in_order (Plain kind.BoolClauseReif) count = record { ordered = refl; few = omega arith }
in_order (Plain kind.ArrayBoolAnd) count = record { ordered = refl; few = omega arith }
in_order (Plain kind.ArrayBoolOr) count = record { ordered = refl; few = omega arith }
in_order (Plain kind.ArrayBoolXor) count = record { ordered = refl; few = omega arith }
in_order (Plain kind.ArrayIntElement) count = record { ordered = refl; few = omega arith }
in_order (Plain kind.ArrayVarIntElement) count = record { ordered = refl; few = omega arith }
in_order (Plain kind.ArrayBoolElement) count = record { ordered = refl; few = omega arith }
in_order (Plain kind.ArrayVarBoolElement) count = record { ordered = refl; few = omega arith }
in_order (Plain kind.SetIn) count = record { ordered = refl; few = omega arith }
in_order (Plain kind.SetInReif) count = record { ordered = refl; few = omega arith }
in_order (Plain kind.FznAllDifferentInt) count = record { ordered = refl; few = omega arith }
in_order (Plain kind.FznTableInt) count = record { ordered = refl; few = omega arith }
in_order (Plain kind.FznTableIntReif) count = record { ordered = refl; few = omega arith }
in_order (Plain kind.FznTableBool) count = record { ordered = refl; few = omega arith }
in_order (Plain kind.FznTableBoolReif) count = record { ordered = refl; few = omega arith }
in_order (Sum rel boolean true) count = record { ordered = refl; few = omega arith }
in_order (Sum rel boolean false) count = record { ordered = refl; few = omega arith }
