use Rattle.std.proofs.Common.{◌≡◌, None}
use Rattle.abt_defs.specs.Network.{empty_network, settle_below}
use Rattle.dcsp_rule.specs.Problems.{csp_of}
use Rattle.abt_network.specs.Bodies.{AreFreshFrom, IsTidy}
use Rattle.abt_network.specs.Settling.{HaveSettled}
use Rattle.abt_network.proofs.body.NetworkBody.settle_all.Given as goal

abbrev pub invariant-loop-agent : goal.invariant-loop-agent
invariant-loop-agent l = record {
  tidy : IsTidy l.self;
  problem : l.self.problem.now ≡ l.initial.self.problem.now;
  fresh : AreFreshFrom l.initial.self.problem.now l.self.agents.items l.agent;
  settled : HaveSettled l.initial.self.problem.now l.self.agents.items l.self.links (settle_below (csp_of l.initial.self.problem.now) l.agent (empty_network (csp_of l.initial.self.problem.now))) None;
}
