use Rattle.std.proofs.Common.{sym, ◌∙◌}
use Rattle.abt_agent.proofs.Causes.{least_chosen}
use Rattle.abt_agent.proofs.body.AgentBody.choice.Goals as goal

pub returns-else-is_free : goal.returns-else-is_free
returns-else-is_free c = least_chosen c.args.self.now.known.problem.now c.args.self.now.known.me c.args.self.now c.least_free.result c.least_free.ensures (sym c.if-is_free.false ∙ c.requires.free)
