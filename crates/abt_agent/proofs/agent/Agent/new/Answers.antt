use Rattle.std.proofs.Common.{ℕ, ap, refl}
use Rattle.dcsp_rule.specs.Problems.{Contents}
use Rattle.abt_agent.proofs.agent.Agent.new.Goals as goal

pub returns : goal.returns
returns c = record {
  agent = c.in_ok-body.ensures.agent;
  problem = ap (λ (x : Contents × ℕ). x.0) c.in_ok-body.ensures.owner;
  me = ap (λ (x : Contents × ℕ). x.1) c.in_ok-body.ensures.owner;
  good = refl;
}
