use Rattle.line_check.proofs.Lawful.{check_lawful}
use Rattle.line_check.proofs.laws.check_is_lawful.Goals as goal

pub returns : goal.returns
returns c = check_lawful
