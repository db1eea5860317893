use Rattle.line_lossy.proofs.Lawful.{lossy_lawful}
use Rattle.line_lossy.proofs.laws.lossy_is_lawful.Goals as goal

pub returns : goal.returns
returns c = lossy_lawful
