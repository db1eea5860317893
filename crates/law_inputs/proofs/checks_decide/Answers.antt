use Rattle.law_inputs.proofs.Accepting.{accepted_items, accepted_texts}
use Rattle.law_inputs.proofs.checks_decide.Goals as goal

pub returns-clause-items : goal.returns-clause-items
returns-clause-items c = accepted_items

pub returns-clause-texts : goal.returns-clause-texts
returns-clause-texts c = accepted_texts
