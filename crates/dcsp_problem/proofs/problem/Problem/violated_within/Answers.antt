use Rattle.std.proofs.Common.{◌≡◌, ◌⊎◌, inl, inr, List, ap, length, subst, sym, ◌∙◌}
use Rattle.std.specs.Prelude.{not, ◌&&◌, IfSome, Option, Some, None, ℤ}
use Rattle.dcsp_defs.specs.Csp.{filled}
use Rattle.dcsp_rule.specs.Problems.{csp_of, constraint_at, rule_at}
use Rattle.dcsp_rule.specs.declared.pair.BinaryRule.{BinaryRule}
use Rattle.dcsp_rule.specs.Pairs.{is_missed, widened, IsPairOf}
use Rattle.dcsp_rule.specs.Lent.{lent_rule}
use Rattle.dcsp_rule.specs.declared.form.Form.{Form}
use Rattle.dcsp_rule.specs.declared.form.Form.TheVariants as form
use Rattle.dcsp_rule.specs.Forms.{form_has, found_truth, pair_in, pair_or_truth}
use Rattle.dcsp_problem.proofs.Reading.{constraint_ok, rule_read}
use Rattle.dcsp_problem.proofs.Narrow.{a_rule, narrow_of_known}
use Rattle.dcsp_problem.proofs.PairLaws.{missed_is}
use Rattle.dcsp_problem.proofs.Violations.{scope_within}
use Rattle.dcsp_problem.proofs.problem.Problem.violated_within.Goals as goal

pub is_true_under-requires-clause-shape : goal.is_true_under-requires-clause-shape
is_true_under-requires-clause-shape g c =
    rw (rule_read c.args.self.now c.args.rule (lent_rule c.rule.result) c.rule.ensures) (a_rule c.args.self.now c.args.rule c.form-form.ensures.problem c.requires.rule).shape

pub is_true_under-requires-clause-narrow : goal.is_true_under-requires-clause-narrow
is_true_under-requires-clause-narrow g c =
    let p = c.args.self.now in
    let known = g.L.Lookup.values c.args.lookup.now in
    let scope = scope_within (csp_of p) known (constraint_at p c.args.rule) (constraint_ok p c.args.rule c.form-form.ensures.problem c.requires.rule) c.requires.domains (sym c.knows_scope.ensures ∙ c.if-knows_scope.true) in
    rw (rule_read p c.args.rule (lent_rule c.rule.result) c.rule.ensures) (narrow_of_known p known c.args.rule c.form-form.ensures.problem c.requires.rule scope)

-- a form that is none of both kinds of pairs
no_pair : (made : Form) → ((set : List ℤ) × (made ≡ form.Listed set)) ⊎ (made ≡ form.Plain) → pair_in made ≡ None
no_pair made (inl e) = ap pair_in e.1
no_pair made (inr e) = ap pair_in e

pub returns-in-Narrow : goal.returns-in-Narrow
returns-in-Narrow g c =
    let p = c.args.self.now in
    let ok = a_rule p c.args.rule c.form-form.ensures.problem c.requires.rule in
    let there : pair_in c.form-form.result.now ≡ Some (widened c.in-Narrow.pair) = ap pair_in c.in-Narrow.is in
    let is = subst (λ (o : Option BinaryRule). IfSome o (λ pair. IsPairOf pair (rule_at p c.args.rule))) there c.form-form.ensures.form.pair in
    c.is_missed.ensures ∙ missed_is (length p.domains) (rule_at p c.args.rule) (widened c.in-Narrow.pair) ok is (g.L.Lookup.values c.args.lookup.now)

pub returns-in-Wide : goal.returns-in-Wide
returns-in-Wide g c =
    let p = c.args.self.now in
    let ok = a_rule p c.args.rule c.form-form.ensures.problem c.requires.rule in
    let there : pair_in c.form-form.result.now ≡ Some c.in-Wide.pair.value = ap pair_in c.in-Wide.is in
    let is = subst (λ (o : Option BinaryRule). IfSome o (λ pair. IsPairOf pair (rule_at p c.args.rule))) there c.form-form.ensures.form.pair in
    c.is_missed-in-Wide.ensures ∙ ap (λ (q : BinaryRule). is_missed q (g.L.Lookup.values c.args.lookup.now)) c.deref.ensures ∙ missed_is (length p.domains) (rule_at p c.args.rule) c.in-Wide.pair.value ok is (g.L.Lookup.values c.args.lookup.now)

pub returns-then-knows_scope : goal.returns-then-knows_scope
returns-then-knows_scope g c =
    let p = c.args.self.now in
    let values = filled (g.L.Lookup.values c.args.lookup.now) in
    let form = c.form-form.result.now in
    let rule = rule_at p c.args.rule in
    let none : pair_in form ≡ None = no_pair form c.in-Listed.is in
    let found : found_truth (form_has form) rule values ≡ pair_or_truth (pair_in form) (form_has form) rule values = sym (ap (λ (o : Option BinaryRule). pair_or_truth o (form_has form) rule values) none) in
    ap not (c.is_true_under.ensures ∙ ap (λ r. found_truth (form_has form) r values) (rule_read p c.args.rule (lent_rule c.rule.result) c.rule.ensures) ∙ found ∙ c.form-form.ensures.form.truth values)
    ∙ sym (ap (λ b. b && not ((constraint_at p c.args.rule).test values)) (sym c.knows_scope.ensures ∙ c.if-knows_scope.true))
