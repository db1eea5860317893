use Rattle.std.proofs.Common.{subst, get_or, None, not, is_some}
use Rattle.abt_reason.specs.Firsts.{IsFirstBetween}
use Rattle.abt_reason.specs.Cached.{Cached}
use Rattle.abt_reason.proofs.FoundRules.{free_without, none_free}
use Rattle.abt_reason.proofs.reasons.Reasons.free_in.Goals as goal

pub returns-in-Some : goal.returns-in-Some
returns-in-Some c = λ known items stands. none_free c.args.self.now known items stands c.args.place c.args.run.first c.args.run.end c.requires _ c.in-Some.is

pub returns-in-None : goal.returns-in-None
returns-in-None c = λ known items stands.
    let found = subst (λ (r : Cached). IsFirstBetween (λ k. not (is_some (get_or r.steps k None))) c.args.place c.args.run.end c.first_without.result) c.self.view_is c.first_without.ensures in
    free_without c.args.self.now known items stands c.args.place c.args.run.first c.args.run.end c.requires c.first_without.result c.in-None.is found
