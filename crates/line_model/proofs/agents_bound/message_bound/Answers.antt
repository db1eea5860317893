use Rattle.std.proofs.Common.{◌≡◌, ◌∙◌, ◌-◌, ◌^◌, ap, length, arith, rules}
use Rattle.std.specs.Prelude.{None, Some}
use Rattle.dcsp_defs.specs.Csp.{count}
use Rattle.dcsp_rule.specs.Problems.{csp_of}
use Rattle.line_model.proofs.MessageBounds.{product_some, product_fits, counted_is, bound_above, none_is, none_tells, some_tells}
use Rattle.line_model.proofs.agents_bound.message_bound.Goals as goal

pub returns-in_err-before : goal.returns-in_err-before
returns-in_err-before c =
    let p = csp_of c.args.problem.now in
    let i = c.loop-var.var in
    let gone : c.loop-var.product ≡ None = search rules in
    let end : c.from_residual.result ≡ None = search rules in
    none_is c.from_residual.result _ _ end (λ fits.
    none_tells c.loop-var.product _ _ gone c.loop-var.invariant.product (product_fits p i (2 ^ 128) (omega arith) (omega arith) fits))

pub most_of_one-requires : goal.most_of_one-requires
most_of_one-requires c =
    let p = csp_of c.args.problem.now in
    let there : c.loop-var.product ≡ Some c.in_ok-before.before = search rules in
    let known = some_tells c.loop-var.product c.in_ok-before.before _ _ there c.loop-var.invariant.product in
    let some = product_some p c.loop-var.var in
    omega (arith, known.1)

pub returns-in_err-most_of_one : goal.returns-in_err-most_of_one
returns-in_err-most_of_one c =
    let p = csp_of c.args.problem.now in
    let i = c.loop-var.var in
    let there : c.loop-var.product ≡ Some c.in_ok-before.before = search rules in
    let known = some_tells c.loop-var.product c.in_ok-before.before _ _ there c.loop-var.invariant.product in
    let gone : c.most_of_one.result ≡ None = search rules in
    let end : c.from_residual-in_err-most_of_one.result ≡ None = search rules in
    let size = ap length c.domain.ensures in
    let lower : c.vars-vars.result - 1 - i ≡ count p - 1 - i = omega arith in
    let is = counted_is p i (c.vars-vars.result - 1 - i) c.len-size.result c.in_ok-before.before lower (c.len-size.ensures.len ∙ size) known.1 in
    let above = bound_above p i (omega arith) in
    none_is c.from_residual-in_err-most_of_one.result _ _ end (λ fits.
    none_tells c.most_of_one.result _ _ gone c.most_of_one.ensures (omega (arith, is)))

pub returns-in_err-bound : goal.returns-in_err-bound
returns-in_err-bound c =
    let p = csp_of c.args.problem.now in
    let i = c.loop-var.var in
    let there : c.loop-var.product ≡ Some c.in_ok-before.before = search rules in
    let known = some_tells c.loop-var.product c.in_ok-before.before _ _ there c.loop-var.invariant.product in
    let gone : c.checked_add.result ≡ None = search rules in
    let end : c.from_residual-in_err-bound.result ≡ None = search rules in
    let size = ap length c.domain.ensures in
    let lower : c.vars-vars.result - 1 - i ≡ count p - 1 - i = omega arith in
    let is = counted_is p i (c.vars-vars.result - 1 - i) c.len-size.result c.in_ok-before.before lower (c.len-size.ensures.len ∙ size) known.1 in
    let so_far = c.loop-var.invariant.bound in
    let above = bound_above p i (omega arith) in
    none_is c.from_residual-in_err-bound.result _ _ end (λ fits.
    none_tells c.checked_add.result _ _ gone c.checked_add.ensures (omega (arith, is, c.in_ok-most_of_one.ensures.1)))
