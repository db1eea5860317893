use Rattle.std.proofs.Common.{take}
use Rattle.abt_defs.specs.Agents.{Tell}
use Rattle.abt_defs.specs.Steps as steps
use Rattle.abt_parts.specs.Views.{stamped_of}
use Rattle.abt_parts.specs.Outgoing.{Posts}
use Rattle.abt_parts.proofs.sending.tell_all.Given as goal

abbrev pub invariant-loop-to : goal.invariant-loop-to
invariant-loop-to l = Posts l.initial.out l.out (steps.to_each (Tell (stamped_of l.told)) (take l.to-index l.tells))
