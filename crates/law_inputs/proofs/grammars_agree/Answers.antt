use Rattle.law_inputs.proofs.PlainItems.{items_agree, grammars_agree}
use Rattle.law_inputs.proofs.grammars_agree.Goals as goal

pub returns-clause-item : goal.returns-clause-item
returns-clause-item c = items_agree

pub returns-clause-items : goal.returns-clause-items
returns-clause-items c = grammars_agree
