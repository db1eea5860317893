use Rattle.std.proofs.Common.{ℤ, ◌++◌, ◌∷◌, [], List, rules, w32, w64, SFits, sym, ap, ◌∙◌}
use Rattle.std.proofs.lemmas.Int.{to_z-of_z}
use Rattle.dcsp_rule.specs.Problems.{csp_of}
use Rattle.line_export.specs.Atoms.{has_value}
use Rattle.line_export.proofs.Once.{mapped_next}
use Rattle.line_export.proofs.formula.value_clause.Goals as goal

pub loop-place-preserved : goal.loop-place-preserved
loop-place-preserved c =
    let f = has_value (csp_of c.args.atoms.now.problem.now) c.args.var in
    let v = c.value-value.result in
    let fits : SFits w32 c.has_value.result = search rules in
    let in_range : SFits w64 v = search rules in
    c.in_ok-push.ensures.items ∙ ap (λ (z : ℤ). c.loop-place.clause.items ++ z ∷ []) (to_z-of_z w32 c.has_value.result fits ∙ c.has_value.ensures ∙ ap f (to_z-of_z w64 v in_range))
    ∙ ap (λ (xs : List ℤ). xs ++ f v ∷ []) c.loop-place.invariant ∙ sym (mapped_next f c.domain-domain.result.now c.loop-place.place v c.value-value.ensures)
