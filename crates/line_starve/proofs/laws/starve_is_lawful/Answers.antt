use Rattle.line_starve.proofs.Lawful.{starve_lawful}
use Rattle.line_starve.proofs.laws.starve_is_lawful.Goals as goal

pub returns : goal.returns
returns c = starve_lawful
