use Rattle.std.proofs.Common.{take}
use Rattle.abt_defs.specs.Agents.{AddLink}
use Rattle.abt_defs.specs.Steps as steps
use Rattle.abt_agent.specs.Asks.{unlinked_names}
use Rattle.abt_parts.specs.Outgoing.{Posts}
use Rattle.abt_agent.proofs.ask.ask_each.Given as goal

abbrev pub invariant-loop-pair : goal.invariant-loop-pair
invariant-loop-pair l = Posts l.initial.out l.out (steps.to_each AddLink (unlinked_names l.linked (take l.pair-index l.pairs)))
