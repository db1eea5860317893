use Rattle.abt_input.proofs.Files.{read_held}
use Rattle.abt_input.proofs.Keeping.{kept, came_unread, came_read, came_answer, came_stopped}
use Rattle.line_rewrite.specs.UpgradePromise.{upgrade_plan}
use Rattle.line_rewrite.proofs.Files.{holds_upgrade}
use Rattle.line_rewrite.proofs.Lawful.{upgrade_sound}
use Rattle.line_rewrite.proofs.Reading.{steps_unread, steps_read}
use Rattle.line_rewrite.proofs.upgrade.run_upgrade.Goals as goal

pub returns-in_err-old-clause-came : goal.returns-in_err-old-clause-came
returns-in_err-old-clause-came g c =
    kept (upgrade_plan c.args.new.now) (upgrade_sound c.args.log.now c.args.new.now) (came_unread _ c.from_residual.ensures (steps_unread c.in_err-old.ensures))

pub returns-in_err-upgrade-clause-came : goal.returns-in_err-upgrade-clause-came
returns-in_err-upgrade-clause-came g c =
    kept (upgrade_plan c.args.new.now) (upgrade_sound c.args.log.now c.args.new.now)
    (came_read (steps_read c.in_ok-old.ensures) (came_stopped _ c.from_residual-in_err-upgrade.ensures c.in_err-upgrade.ensures))

pub returns-clause-came : goal.returns-clause-came
returns-clause-came g c =
    kept (upgrade_plan c.args.new.now) (upgrade_sound c.args.log.now c.args.new.now)
    (came_read (steps_read c.in_ok-old.ensures) (came_answer c.in_ok-upgrade.ensures))

pub returns-clause-writes : goal.returns-clause-writes
returns-clause-writes g c = let e = c.in_ok-old.ensures in holds_upgrade _ _ _ _ _ _ _ _ e.held (read_held (steps_read e)) c.in_ok-upgrade.ensures
