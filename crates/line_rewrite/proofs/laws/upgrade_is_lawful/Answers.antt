use Rattle.line_rewrite.proofs.Lawful.{upgrade_lawful}
use Rattle.line_rewrite.proofs.laws.upgrade_is_lawful.Goals as goal

pub returns : goal.returns
returns c = upgrade_lawful
