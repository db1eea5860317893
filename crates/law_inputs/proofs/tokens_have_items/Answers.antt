use Rattle.law_inputs.proofs.Items.{tokens_have_items}
use Rattle.law_inputs.proofs.tokens_have_items.Goals as goal

pub returns : goal.returns
returns c = tokens_have_items
