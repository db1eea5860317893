use Rattle.std.proofs.Common.{arith, refl}
use Rattle.fzn_token.proofs.Extents.{extent}
use Rattle.fzn_token.proofs.Joining.{reads_one}
use Rattle.fzn_token.proofs.reader.TokenReader.next_token.Goals as goal

pub returns : goal.returns
returns c =
    let t = c.in_ok-token.token in
    let e = extent t.kind c.args.self.now.text.now t.from t.to c.in_ok-token.ensures.1.longest.spelled in
    (reads_one c.args.self.now _ t refl c.if-self.false c.in_ok-token.ensures c.gap_end-self.ensures, omega (arith, e.some, c.in_ok-token.ensures.0, c.gap_end-self.ensures.ordered, c.if-self.false))
