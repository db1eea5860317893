use Rattle.abt_reason.proofs.FoundRules.{first_free}
use Rattle.abt_reason.proofs.reasons.Reasons.first_free.Goals as goal

pub returns-in-Some : goal.returns-in-Some
returns-in-Some c = λ known items stands.
    first_free c.args.self.now known items stands c.loop-place.place c.run-run.result.first c.run-run.result.end c.run-run.ensures c.in-Some.free
    (c.loop-place.invariant known items stands) (c.in-Some.ensures known items stands)
