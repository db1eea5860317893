use Rattle.law_subjects.proofs.Upgrading.{deletes_at_last_use}
use Rattle.law_subjects.proofs.upgraded_logs_delete_at_last_use.Goals as goal

pub returns : goal.returns
returns c = deletes_at_last_use
