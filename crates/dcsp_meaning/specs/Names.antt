-- The names of constraints.
use Rattle.std.specs.Prelude.{ℕ, List, [], ◌∷◌, Option, None, Some, codes, if◌then◌else◌}
use Rattle.std.specs.Str.{bytes_eq}
use Rattle.dcsp_meaning.specs.declared.kinds.ConstraintKind.{ConstraintKind}
use Rattle.dcsp_meaning.specs.declared.kinds.ConstraintKind.TheVariants as kind

-- how a constraint is named
abbrev pub name_of : ConstraintKind → List ℕ
name_of kind.IntEq = codes "int_eq"
name_of kind.IntEqReif = codes "int_eq_reif"
name_of kind.IntNe = codes "int_ne"
name_of kind.IntNeReif = codes "int_ne_reif"
name_of kind.IntLe = codes "int_le"
name_of kind.IntLeReif = codes "int_le_reif"
name_of kind.IntLt = codes "int_lt"
name_of kind.IntLtReif = codes "int_lt_reif"
name_of kind.IntPlus = codes "int_plus"
name_of kind.IntTimes = codes "int_times"
name_of kind.IntMin = codes "int_min"
name_of kind.IntMax = codes "int_max"
name_of kind.IntAbs = codes "int_abs"
name_of kind.IntDiv = codes "int_div"
name_of kind.IntMod = codes "int_mod"
name_of kind.BoolEq = codes "bool_eq"
name_of kind.BoolEqReif = codes "bool_eq_reif"
name_of kind.BoolLe = codes "bool_le"
name_of kind.BoolLeReif = codes "bool_le_reif"
name_of kind.BoolLt = codes "bool_lt"
name_of kind.BoolLtReif = codes "bool_lt_reif"
name_of kind.BoolNot = codes "bool_not"
name_of kind.BoolAnd = codes "bool_and"
name_of kind.BoolOr = codes "bool_or"
name_of kind.BoolXor = codes "bool_xor"
name_of kind.Bool2int = codes "bool2int"
name_of kind.BoolClause = codes "bool_clause"
name_of kind.BoolClauseReif = codes "bool_clause_reif"
name_of kind.ArrayBoolAnd = codes "array_bool_and"
name_of kind.ArrayBoolOr = codes "array_bool_or"
name_of kind.ArrayBoolXor = codes "array_bool_xor"
name_of kind.ArrayIntElement = codes "array_int_element"
name_of kind.ArrayVarIntElement = codes "array_var_int_element"
name_of kind.ArrayBoolElement = codes "array_bool_element"
name_of kind.ArrayVarBoolElement = codes "array_var_bool_element"
name_of kind.SetIn = codes "set_in"
name_of kind.SetInReif = codes "set_in_reif"
name_of kind.FznAllDifferentInt = codes "fzn_all_different_int"
name_of kind.FznTableInt = codes "fzn_table_int"
name_of kind.FznTableIntReif = codes "fzn_table_int_reif"
name_of kind.FznTableBool = codes "fzn_table_bool"
name_of kind.FznTableBoolReif = codes "fzn_table_bool_reif"

-- the first of these kinds with this name
abbrev pub kind_among : List ℕ → List ConstraintKind → Option ConstraintKind
kind_among name [] = None
kind_among name (k ∷ ks) = if bytes_eq name (name_of k) then Some k else kind_among name ks

-- every kind, in the table's order
abbrev pub kinds : List ConstraintKind
kinds =
    kind.IntEq ∷
    kind.IntEqReif ∷
    kind.IntNe ∷
    kind.IntNeReif ∷
    kind.IntLe ∷
    kind.IntLeReif ∷
    kind.IntLt ∷
    kind.IntLtReif ∷
    kind.IntPlus ∷
    kind.IntTimes ∷
    kind.IntMin ∷
    kind.IntMax ∷
    kind.IntAbs ∷
    kind.IntDiv ∷
    kind.IntMod ∷
    kind.BoolEq ∷
    kind.BoolEqReif ∷
    kind.BoolLe ∷
    kind.BoolLeReif ∷
    kind.BoolLt ∷
    kind.BoolLtReif ∷
    kind.BoolNot ∷
    kind.BoolAnd ∷
    kind.BoolOr ∷
    kind.BoolXor ∷
    kind.Bool2int ∷
    kind.BoolClause ∷
    kind.BoolClauseReif ∷
    kind.ArrayBoolAnd ∷
    kind.ArrayBoolOr ∷
    kind.ArrayBoolXor ∷
    kind.ArrayIntElement ∷
    kind.ArrayVarIntElement ∷
    kind.ArrayBoolElement ∷
    kind.ArrayVarBoolElement ∷
    kind.SetIn ∷
    kind.SetInReif ∷
    kind.FznAllDifferentInt ∷
    kind.FznTableInt ∷
    kind.FznTableIntReif ∷
    kind.FznTableBool ∷
    kind.FznTableBoolReif ∷
    []

-- the kind with this name, if there is one
abbrev pub kind_named : List ℕ → Option ConstraintKind
kind_named name = kind_among name kinds
