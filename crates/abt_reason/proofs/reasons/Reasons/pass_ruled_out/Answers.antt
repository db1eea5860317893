use Rattle.std.proofs.Common.{subst}
use Rattle.abt_reason.specs.Cached.{Cached, NoneFreeBetween}
use Rattle.abt_reason.proofs.FoundRules.{passed_free}
use Rattle.abt_reason.proofs.reasons.Reasons.pass_ruled_out.Goals as goal

pub returns-clause-passed : goal.returns-clause-passed
returns-clause-passed c =
    subst (λ (r : Cached). NoneFreeBetween r c.args.place c.pass_ruled_out.result) c.self.view_is
    (λ known items stands k from below. passed_free _ _ _ _ _ _ _ _ c.self.invariant k (c.pass_ruled_out.ensures.passed k from below) known items stands)
