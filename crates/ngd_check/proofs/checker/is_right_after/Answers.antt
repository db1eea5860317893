use Rattle.std.proofs.Common.{◌≡◌, ◌↔◌, IsTrue, IfOk, List, true, sym, subst, All}
use Rattle.dcsp_defs.specs.declared.nogood.Pair.{Pair}
use Rattle.dcsp_defs.specs.Derivation.{IsKnownPair}
use Rattle.dcsp_rule.specs.Problems.{Contents, csp_of}
use Rattle.ngd_check.specs.Citing.{IsRightCiting}
use Rattle.ngd_check.specs.Progress.{kept_at}
use Rattle.ngd_check.proofs.Zips.{in_all}
use Rattle.ngd_check.proofs.Citing.{right_known}
use Rattle.ngd_check.proofs.checker.is_right_after.Goals as goal

pub returns-then-not-branch-clause-right : goal.returns-then-not-branch-clause-right
returns-then-not-branch-clause-right c = (
  λ t. absurd cc,
  λ h.
      let kept = c.args.kept.now in
      let step = c.args.step.now in
      let known : All (IsKnownPair (csp_of kept.problem)) step.nogood = in_all _ _ (right_known (csp_of kept.problem) (kept_at kept.nogoods) step h) in
      let here = subst (λ (q : Contents). All (IsKnownPair (csp_of q)) step.nogood) (sym c.problem-problem.ensures) known in
      let there = subst (λ (ps : List Pair). All (IsKnownPair (csp_of c.problem-problem.result.now)) ps) (sym c.pairs.ensures.pairs) here in
      let yes : c.in_ok-place_each.field-0 ≡ true = c.in_ok-place_each.ensures.known.1 there in
      let no = c.if-not-branch.true in
      absurd cc,
)

pub returns-clause-right : goal.returns-clause-right
returns-clause-right c = subst (λ (q : Contents). IfOk c.is_right_by.result (λ right. IsTrue right ↔ IsRightCiting (csp_of q) (kept_at c.args.kept.now.nogoods) c.args.step.now)) c.problem-problem.ensures c.is_right_by.ensures.right
