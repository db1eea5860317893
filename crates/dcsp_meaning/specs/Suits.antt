-- Rows that are asked for with the arguments of a reified form.
use Rattle.std.specs.Prelude.{ℕ, ◌≤◌, IsTrue}
use Rattle.dcsp_meaning.specs.Table.{is_plain_shape}
use Rattle.dcsp_meaning.specs.declared.kinds.ConstraintKind.{ConstraintKind}

-- the numbers of arguments are those of a constraint that is not reified, with or without more scalars after its own
pub record Suits (k : ConstraintKind) (scalars first second : ℕ) : Type 0 where
  pub own : ℕ
  pub within : own ≤ scalars
  pub shape : IsTrue (is_plain_shape k own first second)
