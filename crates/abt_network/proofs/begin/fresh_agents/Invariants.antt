use Rattle.std.proofs.Common.{◌≡◌, ◌<◌, ℕ, length}
use Rattle.abt_agent.specs.States.{IsFresh}
use Rattle.abt_network.specs.Standing.{state_at}
use Rattle.abt_network.proofs.begin.fresh_agents.Given as goal

abbrev pub invariant-loop-agent : goal.invariant-loop-agent
invariant-loop-agent l = record {
  long : length l.agents.items ≡ l.agent;
  fresh : (k : ℕ) → k < l.agent → IsFresh l.problem k (state_at l.agents.items k);
}
