use Rattle.std.proofs.Common.{◌∙◌, ap, sym}
use Rattle.abt_parts.specs.Views.{stamped_of, stamped_in}
use Rattle.abt_agent.proofs.knowledge.Knowledge.stamped_value.Goals as goal

pub returns-clause-stamped : goal.returns-clause-stamped
returns-clause-stamped c told e = c.requires c.args.var (stamped_of told) (ap stamped_in (sym c.stamped_value.ensures ∙ e))
