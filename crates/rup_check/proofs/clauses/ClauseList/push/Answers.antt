use Rattle.std.proofs.Common.{◌<◌, ◌^◌, length, subst, sym}
use Rattle.rup_check.proofs.NumberLaws.{stored_added}
use Rattle.rup_check.proofs.clauses.ClauseList.push.Goals as goal

pub invariant_of-self : goal.invariant_of-self
invariant_of-self c =
    stored_added c.push.result c.self.inside.places c.push.new.self c.args.literals.now c.requires.literals c.self.invariant (subst (λ w. length w < 2 ^ 32) (sym c.self.view_is) c.requires.room) c.push.ensures.ok c.push.ensures.err
