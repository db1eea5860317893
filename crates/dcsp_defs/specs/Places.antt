-- Where a variable stands in a rising list of pairs.
use Rattle.std.specs.Prelude.{◌≡◌, ℕ, ◌<◌, List, length}
use Rattle.dcsp_defs.specs.declared.nogood.Pair.{Pair}
use Rattle.dcsp_defs.specs.Pairs.{var_at}

-- the pair at this place is the variable's
pub record IsPlaceOf (pairs : List Pair) (var place : ℕ) : Type 0 where
  pub within : place < length pairs
  pub names : var_at pairs place ≡ var
