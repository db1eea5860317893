use Rattle.abt_session.proofs.Tracing.{lines_tell_deliveries}
use Rattle.abt_session.proofs.laws.lines_tell_deliveries.Goals as goal

pub returns : goal.returns
returns c = lines_tell_deliveries
