use Rattle.std.proofs.Common.{◌≡◌, Option, Some, None, refl, arith, false, is_some, sym, ap, ◌∙◌, subst}
use Rattle.std.specs.Prelude.{ℤ}
use Rattle.std.specs.List.{AllZip}
use Rattle.dcsp_defs.specs.Pairs.{value_at}
use Rattle.dcsp_defs.specs.Csp.{PartialAssignment, domain, with_value}
use Rattle.dcsp_rule.specs.Problems.{csp_of, AreInDomains}
use Rattle.ngd_check.specs.Citing.{IsReasonUnder}
use Rattle.ngd_check.proofs.Parts.{pairs_in_domains}
use Rattle.ngd_check.proofs.Zips.{all_in}
use Rattle.ngd_check.proofs.step.is_right_at.Goals as goal

none_of : {A : Type 0} (o : Option A) → is_some o ≡ false → o ≡ None
none_of None e = refl
none_of (Some x) e = absurd cc

pub are_reasons-requires-clause-known : goal.are_reasons-requires-clause-known
are_reasons-requires-clause-known g c = subst (λ (f : PartialAssignment). AreInDomains (csp_of c.args.problem.now) f) (sym c.requires.known) (pairs_in_domains (csp_of c.args.problem.now) c.args.step.now.nogood (all_in _ _ c.requires.pairs))

pub returns : goal.returns
returns g c =
    let p = csp_of c.args.problem.now in
    let nogood = c.args.step.now.nogood in
    let R : PartialAssignment → ℤ → _ → Type 0 = λ f value. IsReasonUnder p (g.C.Cites.cited c.args.nogoods.now) (with_value c.args.var value f) in
    let here : value_at nogood c.args.var ≡ c.value_of.result = ap (λ (f : PartialAssignment). f c.args.var) (sym c.requires.known) ∙ sym c.value_of.ensures in (
      λ t. record {
        variable = (let v = c.vars.ensures.vars in omega (arith, v));
        rising = c.pairs-pairs.ensures.rising;
        pairs = all_in _ _ c.requires.pairs;
        other = none_of (value_at nogood c.args.var) (ap is_some here ∙ (sym c.is_some.ensures ∙ c.if-is_some.false));
        reasons = let z = subst (λ (f : PartialAssignment). AllZip (R f) (domain p c.args.var) c.reasons.result.now) c.requires.known (c.are_reasons.ensures.0 t) in rw c.reasons.ensures at z;
      },
      λ h. c.are_reasons.ensures.1 (subst (λ (f : PartialAssignment). AllZip (R f) (domain p c.args.var) c.reasons.result.now) (sym c.requires.known) (rw c.reasons.ensures h.reasons)),
    )
