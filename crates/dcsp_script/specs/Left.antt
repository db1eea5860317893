-- A script that is made bit by bit, as by a loop: what was made, and what is left.
use Rattle.std.specs.Prelude.{◌≡◌, List, ◌++◌}
use Rattle.dcsp_script.specs.Scripts.{Write, World}
use Rattle.dcsp_script.specs.Ways.{Did}

-- of this script the rest is left, what comes before it was made, and the folder handed nothing over
pub record HasLeft (script rest : List Write) (old new : World) : Type 0 where
  pub made : List Write
  pub is_script : made ++ rest ≡ script
  pub did : Did made old new
  pub handed : new.folder.handed ≡ old.folder.handed
