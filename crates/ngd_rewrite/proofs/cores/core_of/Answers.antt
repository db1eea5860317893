use Rattle.std.proofs.Common.{refl, arith}
use Rattle.dcsp_rule.specs.Problems.{csp_of}
use Rattle.ngd_check.proofs.Parts.{as_many}
use Rattle.ngd_rewrite.proofs.Limiting.{limited_unsolvable, cited_within}
use Rattle.ngd_rewrite.proofs.Refuting.{cites_back, is_trimmed, trimmed_refutes}
use Rattle.ngd_rewrite.proofs.cores.core_of.Goals as goal

pub needed_steps-requires-clause-back : goal.needed_steps-requires-clause-back
needed_steps-requires-clause-back c = cites_back (csp_of c.args.problem.now) c.args.steps.now c.requires.refutes.right

pub of-requires-clause-back : goal.of-requires-clause-back
of-requires-clause-back c = cites_back (csp_of c.args.problem.now) c.args.steps.now c.requires.refutes.right

pub cited_rules-requires : goal.cited_rules-requires
cited_rules-requires c rule t =
    let p = csp_of c.args.problem.now in
    let steps = c.args.steps.now in
    let trimmed = is_trimmed steps steps steps c.in_ok-needed.needed.items c.deref.result.now c.in_ok-trimmed.trimmed refl refl c.deref.ensures.value c.in_ok-needed.ensures.exact c.in_ok-trimmed.ensures in
    let refutes = trimmed_refutes p steps c.in_ok-trimmed.trimmed c.requires.refutes trimmed in
    let l = cited_within p c.in_ok-trimmed.trimmed refutes.right rule t in
    omega (arith, l, as_many c.args.problem.now, c.rules.ensures.rules)

pub returns-clause-steps : goal.returns-clause-steps
returns-clause-steps c = let steps = c.args.steps.now in is_trimmed steps steps steps c.in_ok-needed.needed.items c.deref.result.now c.in_ok-trimmed.trimmed refl refl c.deref.ensures.value c.in_ok-needed.ensures.exact c.in_ok-trimmed.ensures

pub returns-clause-refutation : goal.returns-clause-refutation
returns-clause-refutation c = trimmed_refutes (csp_of c.args.problem.now) c.args.steps.now c.in_ok-trimmed.trimmed c.requires.refutes (returns-clause-steps c)

pub returns-clause-unsolvable : goal.returns-clause-unsolvable
returns-clause-unsolvable c =
    limited_unsolvable (csp_of c.args.problem.now) c.in_ok-trimmed.trimmed c.in_ok-rules.rules c.denotes_csp.ensures.csp (returns-clause-refutation c) c.in_ok-rules.ensures.exact
