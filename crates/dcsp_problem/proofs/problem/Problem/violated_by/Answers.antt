use Rattle.std.proofs.Common.{◌≡◌, ◌∙◌, List, ℤ, ap, arith, length, subst, sym}
use Rattle.std.specs.Prelude.{[], slice_index_or}
use Rattle.dcsp_defs.specs.Csp.{is_violated, IsConstraint}
use Rattle.dcsp_rule.specs.Problems.{Contents, csp_of, constraint_at, value_in, AreInDomains}
use Rattle.dcsp_problem.proofs.Reading.{constraint_ok}
use Rattle.dcsp_problem.proofs.Violations.{violated_same, within_are_in}
use Rattle.dcsp_problem.proofs.problem.Problem.violated_by.Goals as goal

pub violated_within-requires-clause-domains : goal.violated_within-requires-clause-domains
violated_within-requires-clause-domains g c =
    let p = c.args.self.now in
    let known = g.L.Lookup.values c.args.lookup.now in
    let same : p.domains ≡ c.deref.result.now = sym (ap (λ z. z.domains) c.self.view_is) ∙ sym c.deref.ensures.value in
    subst (λ (ds : List (List ℤ)). AreInDomains (csp_of p) (λ var. value_in (slice_index_or ds var []) (known var))) same (within_are_in (csp_of p) known)

pub returns-clause-in_domains : goal.returns-clause-in_domains
returns-clause-in_domains g c =
    let p = c.args.self.now in
    let known = g.L.Lookup.values c.args.lookup.now in
    let same : p.domains ≡ c.deref.result.now = sym (ap (λ z. z.domains) c.self.view_is) ∙ sym c.deref.ensures.value in
    c.violated_within.ensures ∙ sym (ap (λ (ds : List (List ℤ)). is_violated (λ var. value_in (slice_index_or ds var []) (known var)) (constraint_at p c.args.rule)) same)

pub returns-clause-known : goal.returns-clause-known
returns-clause-known g c = λ all.
    let p = c.args.self.now in
    let same = ap (λ z. length z.rules) c.self.view_is in
    let ok = subst (λ (z : Contents). IsConstraint (csp_of z) (constraint_at z c.args.rule)) c.self.view_is (constraint_ok _ c.args.rule c.self.invariant.problem (omega (arith, same, c.requires))) in
    returns-clause-in_domains g c ∙ violated_same (csp_of p) (g.L.Lookup.values c.args.lookup.now) (constraint_at p c.args.rule) ok all
