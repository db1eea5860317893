use Rattle.std.proofs.Common.{arith}
use Rattle.fzn_token.proofs.Extents.{extent}
use Rattle.fzn_token.proofs.pieces.kept.Goals as goal

pub returns-clause-further : goal.returns-clause-further
returns-clause-further c =
    let t = c.args.token in
    let e = extent t.kind c.args.text.now t.from t.to c.requires.reads.1.longest.spelled in
    omega (arith, e.some, c.requires.reads.0)

pub returns-clause-within : goal.returns-clause-within
returns-clause-within c =
    let t = c.args.token in
    (extent t.kind c.args.text.now t.from t.to c.requires.reads.1.longest.spelled).within
