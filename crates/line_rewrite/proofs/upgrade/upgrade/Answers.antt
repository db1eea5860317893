use Rattle.std.proofs.Common.{refl, ◌∙◌}
use Rattle.line_rewrite.specs.OldLogs.{steps_of}
use Rattle.line_rewrite.proofs.Writing.{upgrade_stopped, upgrade_told}
use Rattle.line_rewrite.proofs.upgrade.upgrade.Goals as goal

pub returns-in_err-deleted : goal.returns-in_err-deleted
returns-in_err-deleted g c = upgrade_stopped c.args.new.now (steps_of c.args.log.now) _ refl _ c.from_residual.ensures (c.in_err-deleted.ensures.wrote _)

pub returns : goal.returns
returns g c = upgrade_told c.args.new.now (steps_of c.args.log.now) _ refl _ _ (c.len.ensures ∙ c.requires.endings.count) c.in_ok-deleted.ensures.deleted (c.in_ok-deleted.ensures.wrote _) (c.tell.ensures _)
