use Rattle.std.proofs.Common.{subst}
use Rattle.abt_reason.specs.Cached.{Cached, AreFirstsOf}
use Rattle.abt_reason.proofs.FoundRules.{firsts_found}
use Rattle.abt_reason.proofs.reasons.Reasons.firsts.Goals as goal

pub returns : goal.returns
returns c =
    let firsts = c.self.inside.rules.ruled_out.firsts.items in
    let kept = subst (λ (r : Cached). AreFirstsOf r firsts) c.self.view_is (λ k within. (firsts_found _ _ _ _ _ _ _ _ c.self.invariant k within).same) in
    rw c.deref.ensures.value kept
