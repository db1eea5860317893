use Rattle.std.proofs.Common.{arith}
use Rattle.abt_reason.proofs.FoundRules.{first_rule}
use Rattle.abt_reason.proofs.reasons.Reasons.first_rule.Goals as goal

pub returns : goal.returns
returns c = λ known items stands. first_rule c.args.self.now known items stands c.args.place c.run.result.first c.run.result.end c.run.ensures.same c.args.place (omega arith) c.run.ensures.later c.requires
