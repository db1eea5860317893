use Rattle.abt_parts.proofs.Insertion.{not_below}
use Rattle.std.proofs.Common.{arith}
use Rattle.abt_parts.proofs.listed.place_of.Goals as goal

pub returns-then-agent-agents-clause-after : goal.returns-then-agent-agents-clause-after
returns-then-agent-agents-clause-after c = not_below c.args.agents.now c.loop-place.place c.args.agent c.requires (omega (arith, c.if-agent-agents.true))
