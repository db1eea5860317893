use Rattle.line_drill.proofs.Lawful.{drill_lawful}
use Rattle.line_drill.proofs.laws.drill_is_lawful.Goals as goal

pub returns : goal.returns
returns c = drill_lawful
