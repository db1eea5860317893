-- Values of names, and the values that expressions have under them. Nothing here speaks of scopes, problems or rules.
use Rattle.std.specs.Prelude.{ℕ, ℤ, pos, Bool, true, false, List, [], map, slice_index_or, Option, Some, None}
use Rattle.std.specs.List.{filter_map}
use Rattle.fzn_item.specs.declared.item.Atom.{Atom}
use Rattle.fzn_item.specs.declared.item.Atom.TheVariants as atom
use Rattle.fzn_item.specs.declared.item.Expr.{Expr}
use Rattle.fzn_item.specs.declared.item.Expr.TheVariants as expr
use Rattle.dcsp_rule.specs.declared.rule.Members.{Members}
use Rattle.dcsp_rule.specs.declared.rule.Members.TheVariants.{Between, Listed}
use Rattle.fzn_scope.specs.Names.{bytes_at}

-- an integer or a Boolean, which is 1 where it is true and 0 where it is false; the numbers of an array; or a set
pub data Value : Type 0 where
  Number : ℤ → Value
  Numbers : List ℤ → Value
  Set : Members → Value

-- a value for each name, whether it is declared or not
abbrev pub Environment : Type 0
Environment = List ℕ → Value

-- the number that a value is, if it is one
abbrev pub as_number : Value → Option ℤ
as_number (Number v) = Some v
as_number (Numbers vs) = None
as_number (Set members) = None

-- the numbers of the array that it is, if it is one
abbrev pub as_numbers : Value → Option (List ℤ)
as_numbers (Number v) = None
as_numbers (Numbers vs) = Some vs
as_numbers (Set members) = None

-- the set that it is, if it is one
abbrev pub as_set : Value → Option Members
as_set (Number v) = None
as_set (Numbers vs) = None
as_set (Set members) = Some members

-- the numbers among some values, in order
abbrev pub numbers : List Value → List ℤ
numbers vs = filter_map as_number vs

-- the arrays among them
abbrev pub arrays : List Value → List (List ℤ)
arrays vs = filter_map as_numbers vs

-- the sets among them
abbrev pub sets : List Value → List Members
sets vs = filter_map as_set vs

-- the array at a place among the arrays, counted from 0; an empty one where there is none
abbrev pub array_at : List Value → ℕ → List ℤ
array_at vs place = slice_index_or (arrays vs) place []

-- the first set; an empty one where there is none
abbrev pub first_set : List Value → Members
first_set vs = slice_index_or (sets vs) 0 (Listed [])

-- a truth as a number
abbrev pub truth_number : Bool → ℤ
truth_number true = pos 1
truth_number false = pos 0

-- the value of an atom: a literal is itself, and a name has the value that it is given. No file with a float in an expression is accepted, so its value here plays no part
abbrev pub atom_value : List ℕ → Environment → Atom → Value
atom_value text env (atom.Truth at value) = Number (truth_number value)
atom_value text env (atom.Whole at value) = Number value
atom_value text env (atom.Float at) = Number (pos 0)
atom_value text env (atom.Name at to) = env (bytes_at text at to)
atom_value text env (atom.Range at low high) = Set (Between low high)
atom_value text env (atom.Listed at values) = Set (Listed values)

-- the value of an expression: that of its atom, or the array of the numbers of its atoms
abbrev pub expr_value : List ℕ → Environment → Expr → Value
expr_value text env (expr.One atom) = atom_value text env atom
expr_value text env (expr.List at atoms) = Numbers (numbers (map (atom_value text env) atoms))
