use Rattle.std.proofs.Common.{sym, ap, ◌∙◌, subst}
use Rattle.dcsp_defs.specs.Csp.{IsCsp}
use Rattle.dcsp_rule.specs.Problems.{csp_of}
use Rattle.ngd_check.specs.Progress.{Progress}
use Rattle.ngd_check.proofs.Steps.{progress_refutes}
use Rattle.ngd_check.proofs.checker.Checker.finding.Goals as goal

pub returns-then-self-clause-sound : goal.returns-then-self-clause-sound
returns-then-self-clause-sound c entries h e =
    let v = c.self.view_is in
    progress_refutes c.args.self.now entries
    (subst (λ (q : Progress). IsCsp (csp_of q.problem)) v c.self.invariant.over.csp)
    h
    (sym (ap (λ (q : Progress). q.wrong) v) ∙ c.in-None.is)
    (sym (ap (λ (q : Progress). q.ends_empty) v) ∙ c.if-self.true)
