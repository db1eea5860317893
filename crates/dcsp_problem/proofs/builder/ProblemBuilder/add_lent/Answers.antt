use Rattle.std.proofs.Common.{◌≡◌, ◌≤◌, List, ℤ, ◌+◌, arith, ap, sym, subst, length}
use Rattle.std.specs.Prelude.{All, Option, Some, None, nat_lt, if◌then◌else◌}
use Rattle.std.proofs.lemmas.Result.{err_from_is_err_and}
use Rattle.dcsp_meaning.specs.declared.linear.TheConstants.{WIDEST}
use Rattle.dcsp_rule.specs.Rules.{IsTermOf, terms_of}
use Rattle.dcsp_rule.specs.Lent.{lent_rule}
use Rattle.dcsp_rule.specs.Widths.{rule_width}
use Rattle.dcsp_rule.specs.Problems.{Contents}
use Rattle.dcsp_problem.specs.declared.limits.BuildError.{BuildError}
use Rattle.dcsp_problem.specs.declared.limits.BuildError.TheVariants.{WideSum}
use Rattle.dcsp_problem.specs.Limits.{rule_refusal, IsErrorOf}
use Rattle.dcsp_problem.proofs.Counts.{counts_fit, counts_pass, narrow_from, tallied_rule, refused_for_list, refused_for_number, refused_for_terms, refused_for_width, not_refused}
use Rattle.dcsp_problem.proofs.builder.ProblemBuilder.add_lent.Goals as goal

pub invariant_of-self-2 : goal.invariant_of-self-2
invariant_of-self-2 c =
    let p : Contents = record { domains = c.self.inside.domains.items; rules = c.self.inside.rules; outputs = c.self.inside.outputs.items; aim = c.self.inside.aim } in
    let fit = counts_fit _ _ _ c.in_ok-added.ensures.count in
    let narrow = subst (λ (z : List (List ℤ)). rule_width z (lent_rule c.args.rule) ≤ WIDEST) c.deref.ensures.value (narrow_from (rule_width c.deref.result.now (lent_rule c.args.rule)) c.in_ok-within_width.ensures) in
    let known : All (IsTermOf (length p.domains)) (terms_of (lent_rule c.args.rule)) = subst (λ (z : Contents). All (IsTermOf (length z.domains)) (terms_of (lent_rule c.args.rule))) (sym c.self.view_is) c.requires.known in
    rw c.in_ok-push.ensures.ok (tallied_rule p (lent_rule c.args.rule) c.self.inside.values c.self.inside.terms _ c.self.invariant (record { known = known; shape = c.requires.shape }) fit.0 narrow (ap (λ z. c.self.inside.terms + z) fit.1) (omega (arith, c.in_ok-within.ensures.ok)) (omega (arith, c.in_ok-within-2.ensures.ok)))

pub returns-in_err-added-clause-refusal : goal.returns-in_err-added-clause-refusal
returns-in_err-added-clause-refusal c =
    let p : Contents = record { domains = c.self.inside.domains.items; rules = c.self.inside.rules; outputs = c.self.inside.outputs.items; aim = c.self.inside.aim } in
    let narrow = subst (λ (z : List (List ℤ)). rule_width z (lent_rule c.args.rule) ≤ WIDEST) c.deref.ensures.value (narrow_from (rule_width c.deref.result.now (lent_rule c.args.rule)) c.in_ok-within_width.ensures) in
    let here = refused_for_list p (lent_rule c.args.rule) c.in_err-added.field-0.0 narrow (counts_pass _ _ _ c.in_err-added.ensures.count) in
    let q = err_from_is_err_and c.from_residual-in_err-added.result c.from_residual-in_err-added.ensures.1 in
    rw (q.1, q.2) (subst (λ (z : Contents). IsErrorOf (rule_refusal z (lent_rule c.args.rule)) c.in_err-added.field-0.0) c.self.view_is here)

pub returns-in_err-within-clause-refusal : goal.returns-in_err-within-clause-refusal
returns-in_err-within-clause-refusal c =
    let p : Contents = record { domains = c.self.inside.domains.items; rules = c.self.inside.rules; outputs = c.self.inside.outputs.items; aim = c.self.inside.aim } in
    let narrow = subst (λ (z : List (List ℤ)). rule_width z (lent_rule c.args.rule) ≤ WIDEST) c.deref.ensures.value (narrow_from (rule_width c.deref.result.now (lent_rule c.args.rule)) c.in_ok-within_width.ensures) in
    let fit = counts_fit _ _ _ c.in_ok-added.ensures.count in
    let here = refused_for_number p (lent_rule c.args.rule) c.in_err-within.field-0.0 (c.len-number.result + 1) narrow fit.0 (omega arith) c.in_err-within.ensures.err in
    let q = err_from_is_err_and c.from_residual-in_err-within.result c.from_residual-in_err-within.ensures.1 in
    rw (q.1, q.2) (subst (λ (z : Contents). IsErrorOf (rule_refusal z (lent_rule c.args.rule)) c.in_err-within.field-0.0) c.self.view_is here)

pub returns-in_err-within-2-clause-refusal : goal.returns-in_err-within-2-clause-refusal
returns-in_err-within-2-clause-refusal c =
    let p : Contents = record { domains = c.self.inside.domains.items; rules = c.self.inside.rules; outputs = c.self.inside.outputs.items; aim = c.self.inside.aim } in
    let narrow = subst (λ (z : List (List ℤ)). rule_width z (lent_rule c.args.rule) ≤ WIDEST) c.deref.ensures.value (narrow_from (rule_width c.deref.result.now (lent_rule c.args.rule)) c.in_ok-within_width.ensures) in
    let fit = counts_fit _ _ _ c.in_ok-added.ensures.count in
    let here = refused_for_terms p (lent_rule c.args.rule) c.in_err-within-2.field-0.0 (c.self.inside.terms + c.in_ok-added.added) narrow fit.0 (omega (arith, c.in_ok-within.ensures.ok)) (let v = c.self.invariant.all_terms in omega (arith, fit.1)) c.in_err-within-2.ensures.err in
    let q = err_from_is_err_and c.from_residual-in_err-within-2.result c.from_residual-in_err-within-2.ensures.1 in
    rw (q.1, q.2) (subst (λ (z : Contents). IsErrorOf (rule_refusal z (lent_rule c.args.rule)) c.in_err-within-2.field-0.0) c.self.view_is here)

pub returns-in_err-within_width-clause-refusal : goal.returns-in_err-within_width-clause-refusal
returns-in_err-within_width-clause-refusal c =
    let p : Contents = record { domains = c.self.inside.domains.items; rules = c.self.inside.rules; outputs = c.self.inside.outputs.items; aim = c.self.inside.aim } in
    let error = c.in_err-within_width.field-0.0 in
    let wide = subst (λ (z : List (List ℤ)). IsErrorOf (if nat_lt WIDEST (rule_width z (lent_rule c.args.rule)) then Some WideSum else None) error) c.deref.ensures.value c.in_err-within_width.ensures in
    let q = err_from_is_err_and c.from_residual.result c.from_residual.ensures.1 in
    rw (q.1, q.2) (subst (λ (z : Contents). IsErrorOf (rule_refusal z (lent_rule c.args.rule)) error) c.self.view_is (refused_for_width p (lent_rule c.args.rule) error wide))

pub returns-clause-refusal : goal.returns-clause-refusal
returns-clause-refusal c =
    let p : Contents = record { domains = c.self.inside.domains.items; rules = c.self.inside.rules; outputs = c.self.inside.outputs.items; aim = c.self.inside.aim } in
    let narrow = subst (λ (z : List (List ℤ)). rule_width z (lent_rule c.args.rule) ≤ WIDEST) c.deref.ensures.value (narrow_from (rule_width c.deref.result.now (lent_rule c.args.rule)) c.in_ok-within_width.ensures) in
    let fit = counts_fit _ _ _ c.in_ok-added.ensures.count in
    subst (λ (z : Contents). ◌≡◌ {A = Option BuildError} (rule_refusal z (lent_rule c.args.rule)) None) c.self.view_is
    (not_refused p (lent_rule c.args.rule) narrow fit.0 (omega (arith, c.in_ok-within.ensures.ok)) (let v = c.self.invariant.all_terms in omega (arith, fit.1, c.in_ok-within-2.ensures.ok)))
