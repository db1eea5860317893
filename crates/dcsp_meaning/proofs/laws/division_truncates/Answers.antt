use Rattle.dcsp_meaning.proofs.Divided.{divides, has_one}
use Rattle.dcsp_meaning.proofs.laws.division_truncates.Goals as goal

pub returns-clause-divided : goal.returns-clause-divided
returns-clause-divided c = divides

pub returns-clause-one : goal.returns-clause-one
returns-clause-one c = has_one
