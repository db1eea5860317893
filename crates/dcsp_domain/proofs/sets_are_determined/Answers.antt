use Rattle.dcsp_domain.proofs.SetLaws.{set_of_is_set, one_set}
use Rattle.dcsp_domain.proofs.sets_are_determined.Goals as goal

pub returns-clause-is_set : goal.returns-clause-is_set
returns-clause-is_set c = set_of_is_set

pub returns-clause-only_one : goal.returns-clause-only_one
returns-clause-only_one c = one_set
