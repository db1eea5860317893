use Rattle.line_replay.proofs.Printed.{texts_tell_values}
use Rattle.line_replay.proofs.laws.texts_tell_values.Goals as goal

pub returns : goal.returns
returns c = λ p. texts_tell_values p
