use Rattle.std.proofs.Common.{◌≡◌, ◌∙◌, ap, sym, false, is_some, pos, arith, SFits, to_z, of_z, w64}
use Rattle.std.proofs.lemmas.Int.{ints, to_z-of_z}
use Rattle.std.proofs.lemmas.Option.{slice_get_within}
use Rattle.dcsp_domain.specs.Sets.{has}
use Rattle.dcsp_row.proofs.Domains.{get_or_found}
use Rattle.dcsp_row.proofs.CutLaws.{no_value, only_value}
use Rattle.dcsp_row.proofs.cut.span_of_value.Goals as goal

pub returns-then-value : goal.returns-then-value
returns-then-value c = λ k l.
    let values = c.args.domain.now in
    let place = c.abs_diff-place.result in
    let found = c.value-then-place-values.ensures in
    let same : c.value-then-place-values.result ≡ c.args.value = omega (arith, ints, c.if-value.true) in
    c.one.ensures k ∙ only_value values c.len-values.ensures.rising c.args.value place (slice_get_within values place _ found) (get_or_found values place _ (pos 0) found ∙ same) k l

pub returns-in-Some : goal.returns-in-Some
returns-in-Some c = λ k l.
    let values = c.args.domain.now in
    let place = c.in-Some.place in
    let fits : SFits w64 c.args.value = c.ranges.value in
    let value : to_z w64 (of_z w64 c.args.value) ≡ c.args.value = simp to_z-of_z in
    let found = c.in-Some.ensures.found in
    c.one-in-Some.ensures k ∙ only_value values c.len-values.ensures.rising c.args.value place (slice_get_within values place _ found) (get_or_found values place _ (pos 0) found ∙ value) k l

pub returns-in-None : goal.returns-in-None
returns-in-None c = λ k l.
    let values = c.args.domain.now in
    let fits : SFits w64 c.args.value = c.ranges.value in
    let value : to_z w64 (of_z w64 c.args.value) ≡ c.args.value = simp to_z-of_z in
    let none : has values c.args.value ≡ false = ap (has values) (sym value) ∙ sym c.place_of.ensures.has ∙ ap is_some c.in-None.is in
    c.whole.ensures k ∙ sym (no_value values c.args.value none k l)
