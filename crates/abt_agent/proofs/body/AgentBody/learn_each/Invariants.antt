use Rattle.std.proofs.Common.{◌≡◌, drop, take}
use Rattle.abt_defs.specs.Steps as steps
use Rattle.abt_parts.specs.Messages.{with_stamps}
use Rattle.abt_agent.specs.Bodies.{agent_of, owner_of, IsSized}
use Rattle.abt_agent.proofs.body.AgentBody.learn_each.Given as goal

abbrev pub invariant-loop-place : goal.invariant-loop-place
invariant-loop-place l = record {
  fits : l.fits ≡ steps.fits l.initial.self.known.me (take l.place l.pairs) (agent_of l.self);
  agent : steps.learn_all l.initial.self.known.me (with_stamps (drop l.place l.pairs) (drop l.place l.stamps)) (agent_of l.self) ≡ steps.learn_all l.initial.self.known.me (with_stamps l.pairs l.stamps) (agent_of l.initial.self);
  owner : owner_of l.self.known ≡ owner_of l.initial.self.known;
  sized : IsSized l.self;
}
