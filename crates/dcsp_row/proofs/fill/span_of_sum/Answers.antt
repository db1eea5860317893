use Rattle.std.proofs.Common.{◌≢◌, ◌<◌, ◌∙◌, arith, length, sym}
use Rattle.std.proofs.lemmas.Bool.{eqb-false}
use Rattle.dcsp_row.proofs.fill.span_of_sum.Goals as goal

-- what is kept fits at the first value, and so does its known part
pub off_span-requires : goal.off_span-requires
off_span-requires g c =
    let apart : length c.args.domain.now ≢ 0 = eqb-false (length c.args.domain.now) 0 (sym c.is_empty.ensures ∙ c.if-is_empty.false) in
    let some : 0 < length c.args.domain.now = omega (arith, apart) in
    omega (arith, c.in_ok-opened.ensures.fits 0 some)
