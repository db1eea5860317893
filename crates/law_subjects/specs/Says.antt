-- The items that the lines of generated problems read as. Items name things by their places in the text.
use Rattle.std.specs.Prelude.{◌≡◌, ℕ, ℤ, pos, neg_ℤ, ◌+◌, suc, zero, true, List, [], ◌∷◌, None, Some, codes}
use Rattle.fzn_item.specs.declared.item.Atom.{Atom}
use Rattle.fzn_item.specs.declared.item.Atom.TheVariants.{Name, Whole}
use Rattle.fzn_item.specs.declared.item.Expr.TheVariants as expr
use Rattle.fzn_item.specs.declared.item.Base.TheVariants as base
use Rattle.fzn_item.specs.declared.item.Marked.TheVariants as marked
use Rattle.fzn_item.specs.declared.item.Goal.TheVariants.{Satisfy}
use Rattle.fzn_item.specs.declared.item.Item.{Item}
use Rattle.fzn_item.specs.declared.item.Item.TheVariants as item
use Rattle.fzn_scope.specs.Names.{bytes_at}
use Rattle.dcsp_gen.specs.Lines.{name}
use Rattle.law_subjects.specs.Lines.{ModelLine, Declare, Print, Differ, Above, Below, Table, Solve}

-- the atom is a name, written so
pub record IsNamed (text written : List ℕ) (atom : Atom) : Type 0 where
  pub from : ℕ
  pub to : ℕ
  pub atom_is : atom ≡ Name from to
  pub written_is : bytes_at text from to ≡ written

-- the atoms are the names of the variables from the number first on, so many
abbrev pub AreNamed : List ℕ → List ℕ → ℕ → ℕ → List Atom → Type 0
AreNamed text letter first zero atoms = atoms ≡ []
AreNamed text letter first (suc count) [] = ⊥
AreNamed text letter first (suc count) (atom ∷ atoms) = IsNamed text (name letter first) atom × AreNamed text letter (first + 1) count atoms

-- a variable of this name that has the values from low to high
pub record IsVariable (text written : List ℕ) (low high : ℕ) (i : Item) : Type 0 where
  pub at : ℕ
  pub from : ℕ
  pub to : ℕ
  pub item_is : i ≡ item.Declare at true None (base.Range (pos low) (pos high)) from to marked.Nothing None
  pub written_is : bytes_at text from to ≡ written

-- an array called by the letter, of the variables 1 to count, which a solution prints
pub record IsArray (text letter : List ℕ) (count : ℕ) (i : Item) : Type 0 where
  pub at : ℕ
  pub from : ℕ
  pub to : ℕ
  pub list_at : ℕ
  pub atoms : List Atom
  pub item_is : i ≡ item.Declare at true (Some (pos 1, pos count)) base.Int from to (marked.Ranges ((pos 1, pos count) ∷ [])) (Some (expr.List list_at atoms))
  pub written_is : bytes_at text from to ≡ letter
  pub atoms_are : AreNamed text letter 1 count atoms

-- the variables of these names have different values
pub record IsDiffer (text first second : List ℕ) (i : Item) : Type 0 where
  pub at : ℕ
  pub from : ℕ
  pub to : ℕ
  pub x : Atom
  pub y : Atom
  pub item_is : i ≡ item.Constraint at from to (expr.One x ∷ expr.One y ∷ [])
  pub written_is : bytes_at text from to ≡ codes "int_ne"
  pub x_is : IsNamed text first x
  pub y_is : IsNamed text second y

-- the value of the first variable less that of the second is not the difference
pub record IsDifferNotBy (text first second : List ℕ) (difference : ℤ) (i : Item) : Type 0 where
  pub at : ℕ
  pub from : ℕ
  pub to : ℕ
  pub factors_at : ℕ
  pub one_at : ℕ
  pub minus_at : ℕ
  pub variables_at : ℕ
  pub x : Atom
  pub y : Atom
  pub difference_at : ℕ
  pub item_is :
      i ≡ item.Constraint at from to (
      expr.List factors_at (Whole one_at (pos 1) ∷ Whole minus_at (neg_ℤ (pos 1)) ∷ [])
      ∷ expr.List variables_at (x ∷ y ∷ []) ∷ expr.One (Whole difference_at difference) ∷ [])
  pub written_is : bytes_at text from to ≡ codes "int_lin_ne"
  pub x_is : IsNamed text first x
  pub y_is : IsNamed text second y

-- the atoms are these numbers
abbrev pub AreWhole : List ℕ → List Atom → Type 0
AreWhole [] atoms = atoms ≡ []
AreWhole (number ∷ numbers) [] = ⊥
AreWhole (number ∷ numbers) (atom ∷ atoms) = ((at : ℕ) × (atom ≡ Whole at (pos number))) × AreWhole numbers atoms

-- the entries of rows, row after row
abbrev pub entries_of : List (ℕ × ℕ) → List ℕ
entries_of [] = []
entries_of (row ∷ rows) = row.0 ∷ row.1 ∷ entries_of rows

-- the values of the variables of these names are one of the rows
pub record IsTable (text first second : List ℕ) (rows : List (ℕ × ℕ)) (i : Item) : Type 0 where
  pub at : ℕ
  pub from : ℕ
  pub to : ℕ
  pub variables_at : ℕ
  pub x : Atom
  pub y : Atom
  pub table_at : ℕ
  pub atoms : List Atom
  pub item_is : i ≡ item.Constraint at from to (expr.List variables_at (x ∷ y ∷ []) ∷ expr.List table_at atoms ∷ [])
  pub written_is : bytes_at text from to ≡ codes "fzn_table_int"
  pub x_is : IsNamed text first x
  pub y_is : IsNamed text second y
  pub atoms_are : AreWhole (entries_of rows) atoms

-- any solution is asked for
pub record IsSolve (i : Item) : Type 0 where
  pub at : ℕ
  pub item_is : i ≡ item.Solve at Satisfy

-- the line reads as the item
abbrev pub Says : List ℕ → List ℕ → ModelLine → Item → Type 0
Says text letter (Declare low high number) i = IsVariable text (name letter number) low high i
Says text letter (Print count) i = IsArray text letter count i
Says text letter (Differ first second) i = IsDiffer text (name letter first) (name letter second) i
Says text letter (Above first second distance) i = IsDifferNotBy text (name letter first) (name letter second) (pos distance) i
Says text letter (Below first second distance) i = IsDifferNotBy text (name letter first) (name letter second) (neg_ℤ (pos distance)) i
Says text letter (Table first second rows) i = IsTable text (name letter first) (name letter second) rows i
Says text letter Solve i = IsSolve i

-- one item for each line, in order
abbrev pub AreSaid : List ℕ → List ℕ → List ModelLine → List Item → Type 0
AreSaid text letter [] items = items ≡ []
AreSaid text letter (line ∷ lines) [] = ⊥
AreSaid text letter (line ∷ lines) (i ∷ items) = Says text letter line i × AreSaid text letter lines items
