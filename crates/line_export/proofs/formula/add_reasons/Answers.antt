use Rattle.std.proofs.Common.{◌+◌, ℤ, List, length, drop, get_or, refl, sym, ap, subst, ◌∙◌, arith, rules, w64, SFits}
use Rattle.std.proofs.lemmas.Int.{to_z-of_z}
use Rattle.dcsp_defs.specs.declared.Reason.TheVariants.{Rule}
use Rattle.dcsp_defs.specs.Csp.{domain, given_with}
use Rattle.dcsp_defs.specs.declared.Reason.{Reason}
use Rattle.dcsp_rule.specs.Problems.{csp_of}
use Rattle.line_export.specs.Clauses.{Clause, IsAt, reason_clauses, clauses_at, clauses_of, with_clauses}
use Rattle.line_export.proofs.Once.{with_both, reasons_left, reasons_done, reason_at}
use Rattle.line_export.proofs.formula.add_reasons.Goals as goal

pub loop-place-init : goal.loop-place-init
loop-place-init c = refl

pub add_reason-requires-clause-reason : goal.add_reason-requires-clause-reason
add_reason-requires-clause-reason c = reason_at c.args.atoms.now.problem.now c.items-reason-items.result.now c.args.step.now.reasons c.loop-place.place _ c.items-reason-items.ensures c.loop-place-test.true c.requires.step.reasons

pub loop-place-preserved : goal.loop-place-preserved
loop-place-preserved c =
    let p = c.args.atoms.now.problem.now in
    let pairs = c.args.step.now.nogood in
    let ds = c.domain-domain.result.now in
    let rs = c.items-reason-items.result.now in
    let k = c.loop-place.place in
    let v = c.value-value.result in
    let r = get_or rs k (Rule 0) in
    let in_range : SFits w64 v = search rules in
    let rest = clauses_at p pairs c.args.var (drop (k + 1) ds) (drop (k + 1) rs) in
    let taken = c.in_ok-add_reason.ensures ∙ ap (λ (w : ℤ). with_clauses c.loop-place.clauses (reason_clauses p (given_with c.args.var w pairs) r)) (to_z-of_z w64 v in_range) in
    ap (λ (cs : List Clause). with_clauses cs rest) taken ∙ sym (with_both c.loop-place.clauses (reason_clauses p (given_with c.args.var v pairs) r) rest)
    ∙ ap (with_clauses c.loop-place.clauses) (sym (reasons_left p pairs c.args.var ds rs k v r (Rule 0) c.value-value.ensures c.loop-place-test.true refl)) ∙ c.loop-place.invariant

pub returns : goal.returns
returns c =
    let p = c.args.atoms.now.problem.now in
    let s = c.args.step.now in
    let ds = c.domain-domain.result.now in
    let rs = c.items-reason-items.result.now in
    let counted = (subst (IsAt p s) c.requires.var c.requires.step.at).1 in
    let size = ap length c.domain-domain.ensures in
    let many = ap length c.items-reason-items.ensures in
    let none = reasons_done p s.nogood c.args.var ds rs c.loop-place.place (omega (arith, counted, size, many)) in
    sym (ap (with_clauses c.loop-place.clauses) none) ∙ c.loop-place.invariant
    ∙ ap (λ (ws : List ℤ). with_clauses c.args.clauses.now (clauses_at p s.nogood c.args.var ws rs)) c.domain-domain.ensures
    ∙ ap (λ (ss : List Reason). with_clauses c.args.clauses.now (clauses_at p s.nogood c.args.var (domain (csp_of p) c.args.var) ss)) c.items-reason-items.ensures
    ∙ ap (λ o. with_clauses c.args.clauses.now (clauses_of p s o)) (sym c.requires.var)
