use Rattle.std.proofs.Common.{◌<◌, length, sym, subst, arith}
use Rattle.line_lossy.proofs.ending.values_of.Goals as goal

pub value-requires : goal.value-requires
value-requires c =
    let n = length c.args.problem.now.domains in
    subst (λ k. c.place_in.result < k) (sym c.requires.count) (c.place_in.ensures.within n c.requires.fits (omega arith))
