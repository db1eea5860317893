use Rattle.std.proofs.Common.{Err, refl, ◌∙◌}
use Rattle.abt_input.specs.declared.error.CommandError.TheVariants.{Memory}
use Rattle.abt_input.proofs.Keeping.{kept, came_found, came_answer_with, came_stopped, came_lacking}
use Rattle.line_drill.specs.DrillPromise.{drill_plan}
use Rattle.line_drill.proofs.Lawful.{drill_sound}
use Rattle.line_drill.proofs.drill.run_drill.Goals as goal

pub returns-in_default : goal.returns-in_default
returns-in_default g c = λ folder. kept (drill_plan c.args.seed) (drill_sound c.args.seed) (came_lacking (Err Memory) (refl, refl))

pub returns-in_err-put : goal.returns-in_err-put
returns-in_err-put g c = λ folder.
    let told = c.in-Ok.ensures in
    kept (drill_plan c.args.seed) (drill_sound c.args.seed)
    (came_found told.0.sparse told.0.sparse_is (came_found told.0.queens told.0.queens_is (came_found told.0.pigeons told.0.pigeons_is (came_found told.0.finding told.0.found
    (came_stopped _ c.from_residual.ensures (rw (c.deref.ensures.value ∙ told.2) at (c.in_err-put.ensures folder)))))))

pub returns : goal.returns
returns g c = λ folder.
    let told = c.in-Ok.ensures in
    kept (drill_plan c.args.seed) (drill_sound c.args.seed)
    (came_found told.0.sparse told.0.sparse_is (came_found told.0.queens told.0.queens_is (came_found told.0.pigeons told.0.pigeons_is (came_found told.0.finding told.0.found
    (came_answer_with _ told.1 (rw (c.deref.ensures.value ∙ told.2) at (c.in_ok-put.ensures folder)))))))
