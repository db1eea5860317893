use Rattle.law_inputs.proofs.Texts.{texts_have_tokens}
use Rattle.law_inputs.proofs.texts_have_tokens.Goals as goal

pub returns : goal.returns
returns c = texts_have_tokens
