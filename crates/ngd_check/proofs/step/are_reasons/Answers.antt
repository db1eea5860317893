use Rattle.std.proofs.Common.{◌≡◌, sym, ◌∙◌, ap, arith, length, w64, SFits, rules, subst, List, refl, get_or, take}
use Rattle.std.specs.List.{AllZip}
use Rattle.std.proofs.lemmas.Option.{get_or_from_slice_get}
use Rattle.std.specs.Prelude.{ℤ, pos}
use Rattle.std.proofs.lemmas.Int.{to_z-of_z}
use Rattle.dcsp_defs.specs.declared.Reason.TheVariants.{Rule}
use Rattle.dcsp_defs.specs.Words.{In}
use Rattle.dcsp_defs.proofs.Lists.{get-In}
use Rattle.dcsp_defs.specs.Csp.{with_value}
use Rattle.dcsp_rule.specs.Problems.{csp_of}
use Rattle.ngd_check.specs.Citing.{IsReasonUnder}
use Rattle.ngd_check.proofs.Parts.{more_in_domains}
use Rattle.ngd_check.proofs.Zips.{zip_length, zip_at, zip_more}
use Rattle.ngd_check.proofs.step.are_reasons.Goals as goal

pub returns-then-reasons-len : goal.returns-then-reasons-len
returns-then-reasons-len g c = (λ t. absurd cc, λ z. absurd (c.if-reasons-len.true (zip_length _ _ _ z ∙ ap length (sym c.domain-values.ensures) ∙ sym c.len.ensures.len)))

pub is_reason-requires : goal.is_reason-requires
is_reason-requires g c k w l e =
    let fits : SFits w64 c.value.result = search rules in
    let e2 = rw to_z-of_z at e in
    let here = subst (λ (d : List ℤ). In c.value.result d) c.domain-values.ensures (get-In _ _ _ c.value.ensures) in
    more_in_domains (csp_of c.args.problem.now) (g.L.Lookup.values c.args.known.now) c.args.var c.value.result c.requires.known here k w l e2

pub returns-then-not-is_reason : goal.returns-then-not-is_reason
returns-then-not-is_reason g c =
    let fits : SFits w64 c.value.result = search rules in
    let said = simp to_z-of_z at c.if-not-is_reason.ensures in
    let v : get_or c.domain-values.result.now c.loop-place.place (pos 0) ≡ c.value.result = get_or_from_slice_get c.domain-values.result.now c.loop-place.place c.value.result (pos 0) c.value.ensures in
    let R = (λ (value : ℤ). IsReasonUnder (csp_of c.args.problem.now) (g.C.Cites.cited c.args.nogoods.now) (with_value c.args.var value (g.L.Lookup.values c.args.known.now))) in (
      λ t. absurd cc,
      λ z.
          let z2 : AllZip R c.domain-values.result.now c.args.reasons.now = rw c.domain-values.ensures z in
          said.1 (subst (λ (w : ℤ). R w (get_or c.args.reasons.now c.loop-place.place (Rule 0))) v (zip_at R _ _ c.loop-place.place (pos 0) (Rule 0) z2 (omega (arith, c.len.ensures.len)))),
    )

pub loop-place-preserved : goal.loop-place-preserved
loop-place-preserved g c =
    let fits : SFits w64 c.value.result = search rules in
    let said = simp to_z-of_z at c.if-not-is_reason.ensures in
    let v : get_or c.domain-values.result.now c.loop-place.place (pos 0) ≡ c.value.result = get_or_from_slice_get c.domain-values.result.now c.loop-place.place c.value.result (pos 0) c.value.ensures in
    let R = (λ (value : ℤ). IsReasonUnder (csp_of c.args.problem.now) (g.C.Cites.cited c.args.nogoods.now) (with_value c.args.var value (g.L.Lookup.values c.args.known.now))) in
    let before : AllZip R (take c.loop-place.place c.domain-values.result.now) (take c.loop-place.place c.args.reasons.now) = rw c.domain-values.ensures c.loop-place.invariant in
    let here : R (get_or c.domain-values.result.now c.loop-place.place (pos 0)) (get_or c.args.reasons.now c.loop-place.place (Rule 0)) = subst (λ (w : ℤ). R w (get_or c.args.reasons.now c.loop-place.place (Rule 0))) (sym v) (said.0 refl) in
    rw (← c.domain-values.ensures) (zip_more R _ _ c.loop-place.place (pos 0) (Rule 0) (omega (arith, c.len.ensures.len)) (omega arith) before here)
