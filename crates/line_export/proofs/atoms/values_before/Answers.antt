use Rattle.std.proofs.Common.{◌≡◌, ◌<◌, length, ap, ◌∙◌, arith}
use Rattle.dcsp_rule.specs.Problems.{csp_of}
use Rattle.line_export.specs.Atoms.{values_before}
use Rattle.line_export.proofs.Numbering.{all_values, before_few}
use Rattle.line_export.proofs.atoms.values_before.Goals as goal

pub overflow_add-count : goal.overflow_add-count
overflow_add-count c =
    let l = c.loop-var in
    let all = c.vars-var-end.ensures.vars in
    let within : l.var < length c.args.problem.now.domains = omega (arith, all) in
    let few = before_few c.args.problem.now l.var within in
    let most = c.vars-var-end.ensures.problem.few_values in
    let size = ap length c.domain.ensures in
    let len = c.len.ensures.len in
    let count = l.invariant.count in
    omega (arith, few, most, size, len, count)

pub returns-clause-count : goal.returns-clause-count
returns-clause-count c =
    let l = c.loop-var in
    let all = c.vars-var-end.ensures.vars in
    let at : l.var ≡ length c.args.problem.now.domains = omega (arith, all) in
    l.invariant.count ∙ ap (values_before (csp_of c.args.problem.now)) at ∙ all_values c.args.problem.now
