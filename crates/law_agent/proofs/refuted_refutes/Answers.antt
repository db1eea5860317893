use Rattle.law_agent.proofs.Ends.{refuted_refutes}
use Rattle.law_agent.proofs.refuted_refutes.Goals as goal

pub returns : goal.returns
returns c = refuted_refutes
