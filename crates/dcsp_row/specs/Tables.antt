-- Rows of tables, where one variable is open.
use Rattle.std.specs.Prelude.{◌≡◌, ◌⊎◌, ◌<◌, ℕ, ℤ, Bool, true, false, not, List, length, map, slice_index_or, if◌then◌else◌}
use Rattle.std.specs.Ordering.{int_eq}
use Rattle.dcsp_meaning.specs.declared.kinds.ConstraintKind.{ConstraintKind}
use Rattle.dcsp_meaning.specs.declared.kinds.ConstraintKind.TheVariants as kind
use Rattle.dcsp_meaning.specs.Table.{truth}
use Rattle.dcsp_meaning.specs.Words.{same}
use Rattle.dcsp_meaning.specs.Rows.{stands_at, has_row}
use Rattle.dcsp_defs.specs.Csp.{PartialAssignment, filled, with_value}
use Rattle.dcsp_rule.specs.declared.rule.Term.{Term}
use Rattle.dcsp_rule.specs.Rules.{value_under}
use Rattle.dcsp_row.specs.declared.tables.Fit.{Fit}
use Rattle.dcsp_row.specs.declared.tables.Fit.TheVariants.{Always, At, Never}
use Rattle.dcsp_row.specs.Rows.{own_at}

-- whether it fits at this value of the open variable
abbrev pub fits : Fit → ℤ → Bool
fits Always value = true
fits (At other) value = int_eq value other
fits Never value = false

-- whether two terms have equal values
abbrev pub are_equal_under : PartialAssignment → Term → Term → Bool
are_equal_under values x y = int_eq (value_under (filled values) x) (value_under (filled values) y)

-- where it fits the values have this mark, and elsewhere the one that they had
abbrev pub MarksFit : List ℤ → Fit → Bool → List Bool → List Bool → Type 0
MarksFit domain fit mark old new = (place : ℕ) → place < length domain → slice_index_or new place false ≡ (if fits fit (own_at domain place) then mark else slice_index_or old place false)

-- the values of terms, where the open variable has this one
abbrev pub values_at : ℕ → PartialAssignment → List Term → ℤ → List ℤ
values_at var known terms value = map (value_under (filled (with_value var value known))) terms

-- whether the row stands in the table from this entry on, at this value of the open variable
abbrev pub stands_open : ℕ → PartialAssignment → List Term → List Term → ℕ → ℤ → Bool
stands_open var known row table entry value = stands_at int_eq (values_at var known row value) (values_at var known table value) entry

-- whether some row of the table is not this row, or is it where that is told to be false
abbrev pub is_off_table : ℕ → PartialAssignment → List Term → List Term → Bool → ℤ → Bool
is_off_table var known row table told value = not (same (has_row int_eq (values_at var known row value) (values_at var known table value)) told)

-- a table of integers, reified or not
abbrev pub IsIntTable : ConstraintKind → Type 0
IsIntTable k = (k ≡ kind.FznTableInt) ⊎ (k ≡ kind.FznTableIntReif)

-- with these scalars the constraint tells this of 'some row of the table is the row'
abbrev pub TellsTable : ConstraintKind → List ℤ → Bool → Type 0
TellsTable k scalars told = (row table : List ℤ) (member : ℤ → Bool) → truth k scalars row table member ≡ same (has_row int_eq row table) told
