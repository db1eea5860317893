use Rattle.line_measure.proofs.NumberLaws.{records_alike}
use Rattle.line_measure.proofs.laws.records_alike.Goals as goal

pub returns : goal.returns
returns c = records_alike
