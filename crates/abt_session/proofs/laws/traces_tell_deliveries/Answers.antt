use Rattle.abt_session.proofs.Tracing.{traces_tell_deliveries}
use Rattle.abt_session.proofs.laws.traces_tell_deliveries.Goals as goal

pub returns : goal.returns
returns c = traces_tell_deliveries
