use Rattle.std.proofs.Common.{ℕ, ap, ◌∙◌, arith, rules, w64, SFits, unwrap_or}
use Rattle.std.proofs.lemmas.Int.{to_z-of_z}
use Rattle.line_export.specs.Atoms.{place_in}
use Rattle.line_export.proofs.Numbering.{place_found, place_most}
use Rattle.line_export.proofs.atoms.place_in.Goals as goal

pub returns-clause-place : goal.returns-clause-place
returns-clause-place c =
    let in_range : SFits w64 c.args.pair.value = search rules in
    c.unwrap_or.ensures ∙ ap (λ (n : ℕ). unwrap_or c.place_of.result n) c.len.ensures.len
    ∙ place_found c.args.domain.now c.len.ensures.rising _ c.place_of.result c.place_of.ensures.found c.place_of.ensures.has ∙ ap (place_in c.args.domain.now) (to_z-of_z w64 c.args.pair.value in_range)

pub returns-clause-within : goal.returns-clause-within
returns-clause-within c =
    let in_range : SFits w64 c.args.pair.value = search rules in
    let place = c.unwrap_or.ensures ∙ ap (λ (n : ℕ). unwrap_or c.place_of.result n) c.len.ensures.len ∙ place_found c.args.domain.now c.len.ensures.rising _ c.place_of.result c.place_of.ensures.found c.place_of.ensures.has ∙ ap (place_in c.args.domain.now) (to_z-of_z w64 c.args.pair.value in_range) in
    let most = place_most c.args.domain.now c.args.pair.value in
    omega (arith, place, most)
