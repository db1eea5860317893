use Rattle.line_rewrite.proofs.Files.{upgrade_appended}
use Rattle.line_rewrite.proofs.Meaning.{is_upgrade}
use Rattle.line_rewrite.proofs.laws.new_is_upgraded.Goals as goal

pub returns-clause-text : goal.returns-clause-text
returns-clause-text c = upgrade_appended

pub returns-clause-upgrade : goal.returns-clause-upgrade
returns-clause-upgrade c = is_upgrade
