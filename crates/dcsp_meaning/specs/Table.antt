-- The table of constraints: which arguments each takes, and when it holds. Each row is one line.
use Rattle.std.specs.Prelude.{ℕ, ◌-◌, ◌==◌, ℤ, pos, ◌+ℤ◌, ◌*ℤ◌, Bool, true, false, not, ◌&&◌, ◌||◌, List, length, nat_lt, int_le, int_lt, int_div, int_rem, unsigned_abs, if◌then◌else◌}
use Rattle.std.specs.List.{list_any, list_all}
use Rattle.std.specs.Int.{int_min, int_max}
use Rattle.std.specs.Ordering.{int_eq}
use Rattle.dcsp_meaning.specs.Words.{argument, is_one, same, differ, has_odd_ones, element_at, is_found, are_different, have_same_truth}
use Rattle.dcsp_meaning.specs.Rows.{is_table, has_row}
use Rattle.dcsp_meaning.specs.declared.kinds.ConstraintKind.{ConstraintKind}
use Rattle.dcsp_meaning.specs.declared.kinds.ConstraintKind.TheVariants as kind

-- the constraint that a reified form speaks of; any other is its own
abbrev pub plain_of : ConstraintKind → ConstraintKind
plain_of kind.IntEqReif = kind.IntEq
plain_of kind.IntNeReif = kind.IntNe
plain_of kind.IntLeReif = kind.IntLe
plain_of kind.IntLtReif = kind.IntLt
plain_of kind.BoolEqReif = kind.BoolEq
plain_of kind.BoolLeReif = kind.BoolLe
plain_of kind.BoolLtReif = kind.BoolLt
plain_of kind.BoolClauseReif = kind.BoolClause
plain_of kind.SetInReif = kind.SetIn
plain_of kind.FznTableIntReif = kind.FznTableInt
plain_of kind.FznTableBoolReif = kind.FznTableBool
plain_of other = other

-- whether it is a reified form
abbrev pub is_reified : ConstraintKind → Bool
is_reified kind.IntEqReif = true
is_reified kind.IntNeReif = true
is_reified kind.IntLeReif = true
is_reified kind.IntLtReif = true
is_reified kind.BoolEqReif = true
is_reified kind.BoolLeReif = true
is_reified kind.BoolLtReif = true
is_reified kind.BoolClauseReif = true
is_reified kind.SetInReif = true
is_reified kind.FznTableIntReif = true
is_reified kind.FznTableBoolReif = true
is_reified other = false

-- so many scalars and no list; so many and the first list; so many and both lists
abbrev pub takes_scalars : ℕ → ℕ → ℕ → ℕ → Bool
takes_scalars many scalars first second = (scalars == many) && (first == 0) && (second == 0)

abbrev pub takes_list : ℕ → ℕ → ℕ → ℕ → Bool
takes_list many scalars first second = (scalars == many) && (second == 0)

abbrev pub takes_lists : ℕ → ℕ → ℕ → ℕ → Bool
takes_lists many scalars first second = scalars == many

-- no scalar of its own, a row of at least one value, and a table of whole rows that are as long
abbrev pub takes_table : ℕ → ℕ → ℕ → Bool
takes_table scalars first second = (scalars == 0) && is_table first second

-- whether a constraint that is not reified takes so many scalars and lists of these lengths
abbrev pub is_plain_shape : ConstraintKind → ℕ → ℕ → ℕ → Bool
is_plain_shape kind.IntEq = takes_scalars 2
is_plain_shape kind.IntNe = takes_scalars 2
is_plain_shape kind.IntLe = takes_scalars 2
is_plain_shape kind.IntLt = takes_scalars 2
is_plain_shape kind.IntPlus = takes_scalars 3
is_plain_shape kind.IntTimes = takes_scalars 3
is_plain_shape kind.IntMin = takes_scalars 3
is_plain_shape kind.IntMax = takes_scalars 3
is_plain_shape kind.IntAbs = takes_scalars 2
is_plain_shape kind.IntDiv = takes_scalars 3
is_plain_shape kind.IntMod = takes_scalars 3
is_plain_shape kind.BoolEq = takes_scalars 2
is_plain_shape kind.BoolLe = takes_scalars 2
is_plain_shape kind.BoolLt = takes_scalars 2
is_plain_shape kind.BoolNot = takes_scalars 2
is_plain_shape kind.BoolAnd = takes_scalars 3
is_plain_shape kind.BoolOr = takes_scalars 3
is_plain_shape kind.BoolXor = λ scalars first second. takes_scalars 2 scalars first second || takes_scalars 3 scalars first second
is_plain_shape kind.Bool2int = takes_scalars 2
is_plain_shape kind.BoolClause = takes_lists 0
is_plain_shape kind.ArrayBoolAnd = takes_list 1
is_plain_shape kind.ArrayBoolOr = takes_list 1
is_plain_shape kind.ArrayBoolXor = takes_list 0
is_plain_shape kind.ArrayIntElement = takes_list 2
is_plain_shape kind.ArrayVarIntElement = takes_list 2
is_plain_shape kind.ArrayBoolElement = takes_list 2
is_plain_shape kind.ArrayVarBoolElement = takes_list 2
is_plain_shape kind.SetIn = takes_scalars 1
is_plain_shape kind.FznAllDifferentInt = takes_list 0
is_plain_shape kind.FznTableInt = takes_table
is_plain_shape kind.FznTableBool = takes_table
is_plain_shape reified = λ scalars first second. false

-- whether a constraint takes so many scalars and lists of these lengths: a reified form takes one scalar more
abbrev pub is_shape : ConstraintKind → ℕ → ℕ → ℕ → Bool
is_shape k scalars first second =
    if is_reified k then nat_lt 0 scalars && is_plain_shape (plain_of k) (scalars - 1) first second else is_plain_shape k scalars first second

-- the first, the second and the third scalar
abbrev pub a : List ℤ → ℤ
a s = argument s 0

abbrev pub b : List ℤ → ℤ
b s = argument s 1

abbrev pub c : List ℤ → ℤ
c s = argument s 2

-- whether a constraint that is not reified holds for the scalars s, the lists xs and ys, and the set of the members
abbrev pub plain_truth : ConstraintKind → List ℤ → List ℤ → List ℤ → (ℤ → Bool) → Bool
plain_truth kind.IntEq s xs ys member = int_eq (a s) (b s)
plain_truth kind.IntNe s xs ys member = not (int_eq (a s) (b s))
plain_truth kind.IntLe s xs ys member = int_le (a s) (b s)
plain_truth kind.IntLt s xs ys member = int_lt (a s) (b s)
plain_truth kind.IntPlus s xs ys member = int_eq (a s +ℤ b s) (c s)
plain_truth kind.IntTimes s xs ys member = int_eq (a s *ℤ b s) (c s)
plain_truth kind.IntMin s xs ys member = int_eq (int_min (a s) (b s)) (c s)
plain_truth kind.IntMax s xs ys member = int_eq (int_max (a s) (b s)) (c s)
plain_truth kind.IntAbs s xs ys member = int_eq (pos (unsigned_abs (a s))) (b s)
plain_truth kind.IntDiv s xs ys member = not (int_eq (b s) (pos 0)) && int_eq (int_div (a s) (b s)) (c s)
plain_truth kind.IntMod s xs ys member = not (int_eq (b s) (pos 0)) && int_eq (int_rem (a s) (b s)) (c s)
plain_truth kind.BoolEq s xs ys member = same (is_one (a s)) (is_one (b s))
plain_truth kind.BoolLe s xs ys member = not (is_one (a s)) || is_one (b s)
plain_truth kind.BoolLt s xs ys member = not (is_one (a s)) && is_one (b s)
plain_truth kind.BoolNot s xs ys member = differ (is_one (a s)) (is_one (b s))
plain_truth kind.BoolAnd s xs ys member = same (is_one (a s) && is_one (b s)) (is_one (c s))
plain_truth kind.BoolOr s xs ys member = same (is_one (a s) || is_one (b s)) (is_one (c s))
plain_truth kind.BoolXor s xs ys member = if length s == 2 then differ (is_one (a s)) (is_one (b s)) else same (differ (is_one (a s)) (is_one (b s))) (is_one (c s))
plain_truth kind.Bool2int s xs ys member = int_eq (if is_one (a s) then pos 1 else pos 0) (b s)
plain_truth kind.BoolClause s xs ys member = list_any is_one xs || list_any (λ y. not (is_one y)) ys
plain_truth kind.ArrayBoolAnd s xs ys member = same (list_all is_one xs) (is_one (a s))
plain_truth kind.ArrayBoolOr s xs ys member = same (list_any is_one xs) (is_one (a s))
plain_truth kind.ArrayBoolXor s xs ys member = has_odd_ones xs
plain_truth kind.ArrayIntElement s xs ys member = is_found (λ x. int_eq x (b s)) (element_at xs (a s))
plain_truth kind.ArrayVarIntElement s xs ys member = is_found (λ x. int_eq x (b s)) (element_at xs (a s))
plain_truth kind.ArrayBoolElement s xs ys member = is_found (λ x. same (is_one x) (is_one (b s))) (element_at xs (a s))
plain_truth kind.ArrayVarBoolElement s xs ys member = is_found (λ x. same (is_one x) (is_one (b s))) (element_at xs (a s))
plain_truth kind.SetIn s xs ys member = member (a s)
plain_truth kind.FznAllDifferentInt s xs ys member = are_different xs
plain_truth kind.FznTableInt s xs ys member = has_row int_eq xs ys
plain_truth kind.FznTableBool s xs ys member = has_row have_same_truth xs ys
plain_truth reified s xs ys member = false

-- the last scalar
abbrev pub last : List ℤ → ℤ
last s = argument s (length s - 1)

-- whether the constraint holds: a reified form does exactly where its last scalar tells whether the rest holds
abbrev pub truth : ConstraintKind → List ℤ → List ℤ → List ℤ → (ℤ → Bool) → Bool
truth k s xs ys member =
    if is_reified k then same (plain_truth (plain_of k) s xs ys member) (is_one (last s)) else plain_truth k s xs ys member
