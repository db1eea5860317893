use Rattle.std.proofs.Common.{◌≡◌, ◌<◌, ◌-◌, ◌∙◌, ap, length, arith, true, false}
use Rattle.std.specs.Prelude.{int_lt, pos}
use Rattle.std.proofs.lemmas.Int.{ints}
use Rattle.dcsp_row.proofs.Domains.{get_or_found}
use Rattle.dcsp_row.proofs.CutLaws.{all_below, before_bound, none_below}
use Rattle.dcsp_row.proofs.cut.count_without_gap.Goals as goal

pub returns-then-bound-from : goal.returns-then-bound-from
returns-then-bound-from c =
    let values = c.args.domain.now in
    let at = get_or_found values 0 c.value.result (pos 0) c.value.ensures in
    let wide : c.from.result ≡ c.value.result = omega (arith, ints, c.from.ensures) in
    let first : int_lt c.value.result c.args.bound ≡ false = grind (arith, ints, wide, c.if-bound-from.true) in
    none_below values c.len-len.ensures.rising c.args.bound (ap (λ z. int_lt z c.args.bound) at ∙ first)

pub returns-then-from-bound : goal.returns-then-from-bound
returns-then-from-bound c =
    let values = c.args.domain.now in
    let at = get_or_found values (c.len-len.result - 1) c.value-2.result (pos 0) c.value-2.ensures in
    let wide : c.from-2.result ≡ c.value-2.result = omega (arith, ints, c.from-2.ensures) in
    let last : int_lt c.value-2.result c.args.bound ≡ true = grind (arith, ints, wide, c.if-from-bound.true) in
    all_below values c.len-len.ensures.rising c.args.bound c.len-len.result (omega (arith, c.if-len-eq0.false)) c.len-len.ensures.len (ap (λ z. int_lt z c.args.bound) at ∙ last)

pub returns-then-from-bound-2 : goal.returns-then-from-bound-2
returns-then-from-bound-2 c =
    let values = c.args.domain.now in
    let count = c.in_ok-count.count in
    let at = get_or_found values count c.value-then-count-len.result (pos 0) c.value-then-count-len.ensures in
    let wide : c.from-then-count-len.result ≡ c.value-then-count-len.result = omega (arith, ints, c.from-then-count-len.ensures) in
    let same : c.value-then-count-len.result ≡ c.args.bound = omega (arith, ints, wide, c.if-from-bound-2.true) in
    let within : count < length values = omega (arith, c.if-count-len.true, c.len-len.ensures.len) in
    before_bound values c.len-len.ensures.rising c.args.bound count within (at ∙ same)
