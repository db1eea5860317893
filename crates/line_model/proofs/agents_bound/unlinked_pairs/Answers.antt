use Rattle.std.proofs.Common.{◌≡◌, ◌∙◌, ℕ, ap, length, arith}
use Rattle.dcsp_defs.specs.Words.{sum_below}
use Rattle.dcsp_rule.specs.Problems.{csp_of}
use Rattle.line_model.proofs.Pairs.{counted_lower, few_lower, unlinked_is}
use Rattle.line_model.proofs.agents_bound.unlinked_pairs.Goals as goal

pub overflow_sub-pairs : goal.overflow_sub-pairs
overflow_sub-pairs c =
    let few = few_lower (csp_of c.args.problem.now) c.loop-var.var in
    let same = ap length c.lower_owners.ensures.owners in
    omega arith

pub returns : goal.returns
returns c =
    let all : c.loop-var.var ≡ length c.args.problem.now.domains = omega arith in
    c.loop-var.invariant.pairs ∙ ap (λ (z : ℕ). sum_below (counted_lower (csp_of c.args.problem.now)) z) all ∙ unlinked_is (csp_of c.args.problem.now)
