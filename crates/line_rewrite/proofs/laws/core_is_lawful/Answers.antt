use Rattle.line_rewrite.proofs.CoreLawful.{core_lawful}
use Rattle.line_rewrite.proofs.laws.core_is_lawful.Goals as goal

pub returns : goal.returns
returns c = core_lawful
