-- Names and kinds belong to each other.
use Rattle.std.proofs.Common.{◌≡◌, ℕ, Bool, true, false, List, [], ◌∷◌, Option, Some, IfSome, refl, sym, if◌then◌else◌, Decides}
use Rattle.std.specs.Str.{bytes_eq}
use Rattle.std.proofs.lemmas.Slice.Eq.{bytes_eq-Decides}
use Rattle.dcsp_meaning.specs.declared.kinds.ConstraintKind.{ConstraintKind}
use Rattle.dcsp_meaning.specs.declared.kinds.ConstraintKind.TheVariants as kind
use Rattle.dcsp_meaning.specs.declared.kinds.TheConstants.{KINDS}
use Rattle.dcsp_meaning.specs.Names.{name_of, kind_among}

-- one kind more
among_more : (name : List ℕ) (k : ConstraintKind) (rest : Option ConstraintKind) (b : Bool) → Decides b (name ≡ name_of k) → IfSome rest (λ r. name_of r ≡ name) → IfSome (if b then Some k else rest) (λ r. name_of r ≡ name)
among_more name k rest true d h = sym (d.0 refl)
among_more name k rest false d h = h

-- a kind that is found has the name
pub among_named : (name : List ℕ) (ks : List ConstraintKind) → IfSome (kind_among name ks) (λ k. name_of k ≡ name)
among_named name [] = tt
among_named name (k ∷ ks) = among_more name k (kind_among name ks) (bytes_eq name (name_of k)) (bytes_eq-Decides name (name_of k)) (among_named name ks)

-- each kind is found by its name
pub finds : (k : ConstraintKind) → kind_among (name_of k) KINDS ≡ Some k
finds kind.IntEq = refl
finds kind.IntEqReif = refl
finds kind.IntNe = refl
finds kind.IntNeReif = refl
finds kind.IntLe = refl
finds kind.IntLeReif = refl
finds kind.IntLt = refl
finds kind.IntLtReif = refl
finds kind.IntPlus = refl
finds kind.IntTimes = refl
finds kind.IntMin = refl
finds kind.IntMax = refl
finds kind.IntAbs = refl
finds kind.IntDiv = refl
finds kind.IntMod = refl
finds kind.BoolEq = refl
finds kind.BoolEqReif = refl
finds kind.BoolLe = refl
finds kind.BoolLeReif = refl
finds kind.BoolLt = refl
finds kind.BoolLtReif = refl
finds kind.BoolNot = refl
finds kind.BoolAnd = refl
finds kind.BoolOr = refl
finds kind.BoolXor = refl
finds kind.Bool2int = refl
finds kind.BoolClause = refl
finds kind.BoolClauseReif = refl
finds kind.ArrayBoolAnd = refl
finds kind.ArrayBoolOr = refl
finds kind.ArrayBoolXor = refl
finds kind.ArrayIntElement = refl
finds kind.ArrayVarIntElement = refl
finds kind.ArrayBoolElement = refl
finds kind.ArrayVarBoolElement = refl
finds kind.SetIn = refl
finds kind.SetInReif = refl
finds kind.FznAllDifferentInt = refl
finds kind.FznTableInt = refl
finds kind.FznTableIntReif = refl
finds kind.FznTableBool = refl
finds kind.FznTableBoolReif = refl
