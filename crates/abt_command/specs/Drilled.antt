-- What a drill means to a user.
use Rattle.std.specs.Prelude.{◌≡◌, ◌⊎◌, ℕ, ◌^◌, ◌++◌}
use Rattle.dcsp_outside.specs.Outside.{Told}
use Rattle.dcsp_script.specs.Scripts.{World}
use Rattle.dcsp_script.specs.declared.status.Status.{Status}
use Rattle.ngd_check.specs.declared.Finding.TheVariants.{Verified}
use Rattle.abt_defs.specs.Runs.{Refuted, Solved}
use Rattle.line_drill.specs.Drills.{Drill, run_from, drill_status, drill_text}

-- the sparse graph is solved, or its run is stopped after 2^40 deliveries; the queens are solved, the pigeons are refuted, and the log of that is verified
pub record HasTrueEnds (seed : ℕ) (drill : Drill seed) : Type 0 where
  pub sparse : ((run_from drill.sparse seed).end ≡ Solved) ⊎ ((run_from drill.sparse seed).net.deliveries ≡ 2 ^ 40)
  pub queens : (run_from drill.queens seed).end ≡ Solved
  pub pigeons : (run_from drill.pigeons seed).end ≡ Refuted
  pub verified : drill.finding ≡ Verified

-- The drill of the seed, with a status that is final: its runs ended so, and its lines were put.
pub record IsDrilled (seed : ℕ) (old new : World) (status : Status) : Type 0 where
  pub drill : Drill seed
  pub ends : HasTrueEnds seed drill
  pub status_is : status ≡ drill_status seed drill
  pub out : Told old.out.written new.out.written (λ before now. now ≡ before ++ drill_text seed drill)
