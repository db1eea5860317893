-- The plan of a drill is sound, and so its promise is lawful.
use Rattle.std.proofs.Common.{ℕ, Bool, true, false, []}
use Rattle.std.specs.Prelude.{if◌then◌else◌}
use Rattle.ngd_log.specs.Logs.{log_text}
use Rattle.abt_schedule.specs.Answers.{word_at, generator_of}
use Rattle.dcsp_gen.specs.Problems.{sparse_text, queens_text, pigeons_text}
use Rattle.dcsp_script.specs.declared.status.Status.TheVariants.{Good, Unfinished}
use Rattle.dcsp_script.specs.Statuses.{IsFinal, IsRefusal}
use Rattle.dcsp_script.specs.Clauses.{IsLawful}
use Rattle.abt_input.specs.Plans.{IsSoundPlan}
use Rattle.abt_input.proofs.Once.{one_problem}
use Rattle.abt_input.proofs.OwnWrites.{own_none, own_put}
use Rattle.abt_input.proofs.PlanLaws.{plan_lawful}
use Rattle.line_check.proofs.Lawful.{log_exact}
use Rattle.line_drill.specs.Drills.{run_from}
use Rattle.line_drill.specs.DrillPromise.{drill_plan, drill_promise}

final : (unfinished : Bool) → IsFinal (if unfinished then Unfinished else Good)
final true = tt
final false = tt

no_refusal : (unfinished : Bool) → IsRefusal (if unfinished then Unfinished else Good) → ⊥
no_refusal true h = h
no_refusal false h = h

pub drill_sound : (seed : ℕ) → IsSoundPlan [] [] (drill_plan seed)
drill_sound seed = (
  one_problem (sparse_text 500 (word_at (generator_of seed))),
  λ sparse. (
    one_problem (queens_text 6),
    λ queens. (
      one_problem (pigeons_text 5),
      λ pigeons. (
        (log_exact pigeons).one (log_text (run_from pigeons seed).net.steps),
        λ finding.
            record { final = final _; no_refusal = no_refusal _; names = own_put own_none },
      ),
    ),
  ),
)

pub drill_lawful : (seed : ℕ) → IsLawful (drill_promise seed)
drill_lawful seed = plan_lawful (drill_plan seed) (drill_sound seed)
