use Rattle.law_inputs.proofs.LeftOut.{ignored_changes_nothing}
use Rattle.law_inputs.proofs.ignored_changes_nothing.Goals as goal

pub returns : goal.returns
returns c = ignored_changes_nothing
