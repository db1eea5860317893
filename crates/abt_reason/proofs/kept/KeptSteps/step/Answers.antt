use Rattle.std.proofs.Common.{None, sym, arith}
use Rattle.std.proofs.Math.ListN.{get_or-eq_default}
use Rattle.abt_reason.proofs.kept.KeptSteps.step.Goals as goal

pub returns-else-place-len : goal.returns-else-place-len
returns-else-place-len c = sym (get_or-eq_default c.args.self.now.steps.items None (omega arith))
