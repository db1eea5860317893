use Rattle.std.proofs.Common.{◌≡◌, drop, take}
use Rattle.abt_defs.specs.Steps as steps
use Rattle.abt_parts.specs.Messages.{with_stamps}
use Rattle.abt_agent.specs.Bodies.{agent_of}
use Rattle.abt_agent.proofs.body.AgentBody.fits_known.Given as goal

abbrev pub invariant-loop-place : goal.invariant-loop-place
invariant-loop-place l = record {
  news : steps.is_news l.self.known.me (with_stamps (drop l.place l.pairs) (drop l.place l.stamps)) (agent_of l.self) ≡ steps.is_news l.self.known.me (with_stamps l.pairs l.stamps) (agent_of l.self);
  fits : l.fits ≡ steps.fits l.self.known.me (take l.place l.pairs) (agent_of l.self);
}
