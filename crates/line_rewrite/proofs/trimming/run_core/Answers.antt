use Rattle.std.proofs.Common.{Err, refl, ◌∙◌}
use Rattle.abt_input.specs.declared.error.CommandError.TheVariants.{Memory}
use Rattle.abt_input.proofs.Files.{read_held}
use Rattle.abt_input.proofs.Keeping.{kept, came_unread, came_read, came_found, came_answer, came_answer_with, came_stopped, came_lacking}
use Rattle.line_check.specs.Taking.{taking_of}
use Rattle.line_rewrite.specs.CorePromise.{core_plan}
use Rattle.line_rewrite.proofs.CoreFiles.{found_in, found_refutes, found_writable, holds_core}
use Rattle.line_rewrite.proofs.CoreLawful.{core_sound, keeps_trimmed, keeps_rejected, rejected_status, rejected}
use Rattle.line_rewrite.proofs.Refuting.{trimmed_writable}
use Rattle.line_rewrite.proofs.trimming.run_core.Goals as goal

pub returns-in_err-problem-clause-came : goal.returns-in_err-problem-clause-came
returns-in_err-problem-clause-came g c =
    let l = c.args.line in
    kept (core_plan (taking_of l.better) l.trimmed.now) (core_sound l.better l.model.now l.log.now l.trimmed.now) (came_unread _ c.from_residual.ensures c.in_err-problem.ensures)

pub returns-in_err-checked-clause-came : goal.returns-in_err-checked-clause-came
returns-in_err-checked-clause-came g c =
    let l = c.args.line in
    kept (core_plan (taking_of l.better) l.trimmed.now) (core_sound l.better l.model.now l.log.now l.trimmed.now)
    (came_read c.in_ok-problem.ensures (came_unread _ c.from_residual-in_err-checked.ensures c.in_err-checked.ensures))

pub returns-in_err-reject-clause-came : goal.returns-in_err-reject-clause-came
returns-in_err-reject-clause-came g c =
    let l = c.args.line in
    kept (core_plan (taking_of l.better) l.trimmed.now) (core_sound l.better l.model.now l.log.now l.trimmed.now)
    (came_read c.in_ok-problem.ensures (came_read c.in_ok-checked.ensures
    (keeps_rejected l.trimmed.now c.in_ok-problem.problem c.in_ok-checked.checked.steps c.in_ok-checked.checked.finding (rejected _ c.if-not-is_verified.true c.is_verified.ensures) (came_stopped _ c.from_residual-in_err-reject.ensures (c.in_err-reject.ensures _)))))

pub returns-then-not-is_verified-clause-came : goal.returns-then-not-is_verified-clause-came
returns-then-not-is_verified-clause-came g c =
    let l = c.args.line in
    let unlike = (rejected _ c.if-not-is_verified.true c.is_verified.ensures) in
    kept (core_plan (taking_of l.better) l.trimmed.now) (core_sound l.better l.model.now l.log.now l.trimmed.now)
    (came_read c.in_ok-problem.ensures (came_read c.in_ok-checked.ensures
    (keeps_rejected l.trimmed.now c.in_ok-problem.problem c.in_ok-checked.checked.steps c.in_ok-checked.checked.finding unlike (came_answer_with _ (rejected_status _ unlike) (c.in_ok-reject.ensures _)))))

pub core_of-requires : goal.core_of-requires
core_of-requires g c =
    let log = read_held c.in_ok-checked.ensures in
    record { refutes = found_refutes c.in_ok-problem.problem log.0 c.in_ok-checked.checked log.2 (c.is_verified.ensures.0 c.if-not-is_verified.false) }

pub returns-in_default-clause-came : goal.returns-in_default-clause-came
returns-in_default-clause-came g c =
    let l = c.args.line in
    kept (core_plan (taking_of l.better) l.trimmed.now) (core_sound l.better l.model.now l.log.now l.trimmed.now)
    (came_read c.in_ok-problem.ensures (came_read c.in_ok-checked.ensures (came_lacking (Err Memory) (refl, refl))))

pub write_core-requires : goal.write_core-requires
write_core-requires g c =
    let log = read_held c.in_ok-checked.ensures in
    trimmed_writable c.in_ok-checked.checked.steps _ c.in-Ok.ensures.steps (found_writable c.in_ok-problem.problem log.0 c.in_ok-checked.checked log.2 (c.is_verified.ensures.0 c.if-not-is_verified.false))

pub returns-in_err-write_core-clause-came : goal.returns-in_err-write_core-clause-came
returns-in_err-write_core-clause-came g c =
    let l = c.args.line in
    let is = c.in-Ok.ensures in
    kept (core_plan (taking_of l.better) l.trimmed.now) (core_sound l.better l.model.now l.log.now l.trimmed.now)
    (came_read c.in_ok-problem.ensures (came_read c.in_ok-checked.ensures
    (keeps_trimmed l.trimmed.now c.in_ok-problem.problem c.in_ok-checked.checked.steps c.in_ok-checked.checked.finding (c.is_verified.ensures.0 c.if-not-is_verified.false)
    (came_found c.in-Ok.core (record { trimmed = is.steps; rising = is.rising; cited = is.rules }) (came_stopped _ c.from_residual-in_err-write_core.ensures c.in_err-write_core.ensures)))))

pub returns-clause-came : goal.returns-clause-came
returns-clause-came g c =
    let l = c.args.line in
    let is = c.in-Ok.ensures in
    kept (core_plan (taking_of l.better) l.trimmed.now) (core_sound l.better l.model.now l.log.now l.trimmed.now)
    (came_read c.in_ok-problem.ensures (came_read c.in_ok-checked.ensures
    (keeps_trimmed l.trimmed.now c.in_ok-problem.problem c.in_ok-checked.checked.steps c.in_ok-checked.checked.finding (c.is_verified.ensures.0 c.if-not-is_verified.false) (came_found c.in-Ok.core (record { trimmed = is.steps; rising = is.rising; cited = is.rules }) (came_answer c.in_ok-write_core.ensures)))))

pub returns-clause-trims : goal.returns-clause-trims
returns-clause-trims g c = λ good.
    let m = c.in_ok-problem.ensures in
    let k = c.in_ok-checked.ensures in
    let is = c.in-Ok.ensures in
    let before = g.F.Folder.place c.args.outside.now.folder in
    let mid = g.F.Folder.place c.take_problem.new.folder in
    holds_core c.args.line.better c.args.line.model.now c.args.line.log.now c.args.line.trimmed.now before (g.F.Folder.place c.check_and_keep.new.folder) _ (k.held ∙ m.held) c.in_ok-problem.problem c.in_ok-checked.checked c.in-Ok.core _ _ (c.is_verified.ensures.0 c.if-not-is_verified.false)
    (found_in c.args.line.better before.held mid.held c.args.line.model.now c.args.line.log.now c.in_ok-problem.problem c.in_ok-checked.checked m.held (read_held m) (read_held k))
    (record { trimmed = is.steps; rising = is.rising; cited = is.rules }) is.refutation is.unsolvable c.in_ok-write_core.ensures
