-- What checks look at in the names that were declared before: of what sort each is, and how great its values can be.
use Rattle.std.specs.Prelude.{ℕ, Bool, true, false, not, ◌&&◌, ◌||◌, List, [], ◌∷◌, map, length, Option, Some, None, unsigned_abs, if◌then◌else◌}
use Rattle.std.specs.List.{list_all}
use Rattle.std.specs.Str.{bytes_eq}
use Rattle.fzn_item.specs.declared.item.Atom.{Atom}
use Rattle.fzn_item.specs.declared.item.Atom.TheVariants as atom
use Rattle.fzn_item.specs.declared.item.Expr.{Expr}
use Rattle.fzn_item.specs.declared.item.Expr.TheVariants as expr
use Rattle.fzn_scope.specs.declared.place.Wanted.{Wanted}
use Rattle.fzn_scope.specs.Names.{bytes_at}
use Rattle.fzn_scope.specs.Places.{same}

-- one number: whether it is a Boolean, whether it is a constant, and its greatest absolute value. A set: how many values it lists, which is none where it is a range. An array: whether it is of Booleans, whether it is of variables, and the greatest absolute value of each element
pub data Sort : Type 0 where
  One : Bool → Bool → ℕ → Sort
  Set : ℕ → Sort
  Many : Bool → Bool → List ℕ → Sort

-- names with their sorts, in the order of their declarations
abbrev pub Names : Type 0
Names = List (List ℕ × Sort)

-- the sort of a name, if it is declared
abbrev pub sort_named : Names → List ℕ → Option Sort
sort_named [] name = None
sort_named (n ∷ ns) name = if bytes_eq name n.0 then Some n.1 else sort_named ns name

-- whether what is a Boolean or an integer, constant or not, is what is wanted
abbrev pub suits : Wanted → Bool → Bool → Bool
suits wanted boolean constant = same boolean wanted.boolean && (not wanted.constant || constant)

-- ---- one number

abbrev pub name_suits : Wanted → Option Sort → Bool
name_suits wanted None = false
name_suits wanted (Some (One boolean constant size)) = suits wanted boolean constant
name_suits wanted (Some (Set count)) = false
name_suits wanted (Some (Many boolean variable sizes)) = false

-- whether an atom is such a number
abbrev pub atom_suits : List ℕ → Names → Wanted → Atom → Bool
atom_suits text names wanted (atom.Truth at value) = suits wanted true true
atom_suits text names wanted (atom.Whole at value) = suits wanted false true
atom_suits text names wanted (atom.Float at) = false
atom_suits text names wanted (atom.Name at to) = name_suits wanted (sort_named names (bytes_at text at to))
atom_suits text names wanted (atom.Range at low high) = false
atom_suits text names wanted (atom.Listed at values) = false

-- whether an expression is
abbrev pub one_suits : List ℕ → Names → Wanted → Expr → Bool
one_suits text names wanted (expr.One atom) = atom_suits text names wanted atom
one_suits text names wanted (expr.List at atoms) = false

abbrev pub name_size : Option Sort → ℕ
name_size None = 0
name_size (Some (One boolean constant size)) = size
name_size (Some (Set count)) = 0
name_size (Some (Many boolean variable sizes)) = 0

abbrev pub truth_size : Bool → ℕ
truth_size true = 1
truth_size false = 0

-- the greatest absolute value of an atom that is a number
abbrev pub atom_size : List ℕ → Names → Atom → ℕ
atom_size text names (atom.Truth at value) = truth_size value
atom_size text names (atom.Whole at value) = unsigned_abs value
atom_size text names (atom.Float at) = 0
atom_size text names (atom.Name at to) = name_size (sort_named names (bytes_at text at to))
atom_size text names (atom.Range at low high) = 0
atom_size text names (atom.Listed at values) = 0

-- that of an expression
abbrev pub one_size : List ℕ → Names → Expr → ℕ
one_size text names (expr.One atom) = atom_size text names atom
one_size text names (expr.List at atoms) = 0

-- ---- lists of numbers

abbrev pub array_suits : Wanted → Option Sort → Bool
array_suits wanted None = false
array_suits wanted (Some (One boolean constant size)) = false
array_suits wanted (Some (Set count)) = false
array_suits wanted (Some (Many boolean variable sizes)) = suits wanted boolean (not variable)

-- whether an expression is a list of such numbers. The name of an array is one where the array is declared as one, whatever its elements are
abbrev pub list_suits : List ℕ → Names → Wanted → Expr → Bool
list_suits text names wanted (expr.List at atoms) = list_all (atom_suits text names wanted) atoms
list_suits text names wanted (expr.One (atom.Name at to)) = array_suits wanted (sort_named names (bytes_at text at to))
list_suits text names wanted (expr.One (atom.Truth at value)) = false
list_suits text names wanted (expr.One (atom.Whole at value)) = false
list_suits text names wanted (expr.One (atom.Float at)) = false
list_suits text names wanted (expr.One (atom.Range at low high)) = false
list_suits text names wanted (expr.One (atom.Listed at values)) = false

abbrev pub array_sizes : Option Sort → List ℕ
array_sizes None = []
array_sizes (Some (One boolean constant size)) = []
array_sizes (Some (Set count)) = []
array_sizes (Some (Many boolean variable sizes)) = sizes

-- the greatest absolute value of each of its elements
abbrev pub list_sizes : List ℕ → Names → Expr → List ℕ
list_sizes text names (expr.List at atoms) = map (atom_size text names) atoms
list_sizes text names (expr.One (atom.Name at to)) = array_sizes (sort_named names (bytes_at text at to))
list_sizes text names (expr.One (atom.Truth at value)) = []
list_sizes text names (expr.One (atom.Whole at value)) = []
list_sizes text names (expr.One (atom.Float at)) = []
list_sizes text names (expr.One (atom.Range at low high)) = []
list_sizes text names (expr.One (atom.Listed at values)) = []

-- ---- sets

abbrev pub set_named_suits : Option Sort → Bool
set_named_suits None = false
set_named_suits (Some (One boolean constant size)) = false
set_named_suits (Some (Set count)) = true
set_named_suits (Some (Many boolean variable sizes)) = false

-- whether an expression is a set
abbrev pub set_suits : List ℕ → Names → Expr → Bool
set_suits text names (expr.List at atoms) = false
set_suits text names (expr.One (atom.Name at to)) = set_named_suits (sort_named names (bytes_at text at to))
set_suits text names (expr.One (atom.Truth at value)) = false
set_suits text names (expr.One (atom.Whole at value)) = false
set_suits text names (expr.One (atom.Float at)) = false
set_suits text names (expr.One (atom.Range at low high)) = true
set_suits text names (expr.One (atom.Listed at values)) = true

abbrev pub set_named_count : Option Sort → ℕ
set_named_count None = 0
set_named_count (Some (One boolean constant size)) = 0
set_named_count (Some (Set count)) = count
set_named_count (Some (Many boolean variable sizes)) = 0

-- how many values it lists
abbrev pub set_count : List ℕ → Names → Expr → ℕ
set_count text names (expr.List at atoms) = 0
set_count text names (expr.One (atom.Name at to)) = set_named_count (sort_named names (bytes_at text at to))
set_count text names (expr.One (atom.Truth at value)) = 0
set_count text names (expr.One (atom.Whole at value)) = 0
set_count text names (expr.One (atom.Float at)) = 0
set_count text names (expr.One (atom.Range at low high)) = 0
set_count text names (expr.One (atom.Listed at values)) = length values
