use Rattle.std.proofs.Common.{◌<◌, length, sym, subst, arith}
use Rattle.dcsp_rule.specs.Problems.{Contents}
use Rattle.abt_session.proofs.outcome.values_of.Goals as goal

pub value-requires : goal.value-requires
value-requires c =
    let p : Contents = c.args.model.problem.now in
    subst (λ (q : Contents). c.place_in.result < length q.domains) (sym c.requires.run) (c.place_in.ensures.within (length p.domains) c.requires.fits (omega arith))
