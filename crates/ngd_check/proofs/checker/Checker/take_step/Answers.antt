use Rattle.std.proofs.Common.{◌≡◌, ◌+◌, ◌∷◌, ◌++◌, [], refl, sym, ap, ◌∙◌, subst, None}
use Rattle.dcsp_defs.specs.declared.entry.Entry.TheVariants.{Step as A_step}
use Rattle.dcsp_rule.specs.Problems.{Contents, csp_of}
use Rattle.ngd_check.specs.Findings.{IsFirstWrongStep}
use Rattle.ngd_check.specs.Progress.{Progress, HasTaken, HasKept}
use Rattle.ngd_check.proofs.Steps.{progress_step, progress_wrong_step, empty_test, kept_step, kept_wrong}
use Rattle.ngd_check.proofs.checker.Checker.take_step.Goals as goal

pub returns-in_ok-push-clause-taken : goal.returns-in_ok-push-clause-taken
returns-in_ok-push-clause-taken c entries h =
    let q : Progress = record { problem = c.self.inside.kept.problem; kept = c.self.inside.kept.nogoods; ends_empty = c.self.inside.ends_empty; wrong = c.self.inside.wrong; keeps = c.self.inside.kept.keeps; steps = c.self.inside.kept.steps } in
    let going : q.wrong ≡ None = ap (λ (r : Progress). r.wrong) c.self.view_is ∙ c.requires in
    let before : HasTaken entries q = subst (HasTaken entries) (sym c.self.view_is) h in
    subst (λ (p : Contents). HasTaken (entries ++ A_step c.args.step.now ∷ []) (record { problem = p; kept = c.push.new.self.nogoods; ends_empty = c.is_empty-self-inside.result; wrong = q.wrong; keeps = c.push.new.self.keeps; steps = c.push.new.self.steps })) (sym c.in_ok-push.ensures.problem)
    (progress_step q going entries before c.args.step.now c.push.new.self.nogoods c.push.new.self.steps c.is_empty-self-inside.result (c.in_ok-right.ensures.right.0 c.if-right.true) c.in_ok-push.ensures.ok (empty_test c.pairs.result.now c.args.step.now.nogood c.is_empty-self-inside.result c.is_empty-self-inside.ensures c.pairs.ensures.pairs))

pub returns-in_ok-push-clause-kept : goal.returns-in_ok-push-clause-kept
returns-in_ok-push-clause-kept c entries h =
    let q : Progress = record { problem = c.self.inside.kept.problem; kept = c.self.inside.kept.nogoods; ends_empty = c.self.inside.ends_empty; wrong = c.self.inside.wrong; keeps = c.self.inside.kept.keeps; steps = c.self.inside.kept.steps } in
    let going : q.wrong ≡ None = ap (λ (r : Progress). r.wrong) c.self.view_is ∙ c.requires in
    kept_step q _ entries (subst (HasKept entries) (sym c.self.view_is) h) c.in_ok-push.ensures.keeps c.args.step.now going c.in_ok-push.ensures.all c.in_ok-push.ensures.none

pub returns-else-right-clause-taken : goal.returns-else-right-clause-taken
returns-else-right-clause-taken c entries h =
    let q : Progress = record { problem = c.self.inside.kept.problem; kept = c.self.inside.kept.nogoods; ends_empty = c.self.inside.ends_empty; wrong = c.self.inside.wrong; keeps = c.self.inside.kept.keeps; steps = c.self.inside.kept.steps } in
    let going : q.wrong ≡ None = ap (λ (r : Progress). r.wrong) c.self.view_is ∙ c.requires in
    let before : HasTaken entries q = subst (HasTaken entries) (sym c.self.view_is) h in
    let first = progress_wrong_step q going entries before c.args.step.now (λ r. let t = c.in_ok-right.ensures.right.1 r in let f = c.if-right.false in cc) in
    subst (λ n. IsFirstWrongStep (csp_of q.problem) (entries ++ A_step c.args.step.now ∷ []) (n + 1)) (sym c.len.ensures.len) first

pub returns-else-right-clause-kept : goal.returns-else-right-clause-kept
returns-else-right-clause-kept c entries h =
    kept_wrong c.args.self.now _ entries h (ap (λ (r : Progress). r.keeps) c.self.view_is) _ _ refl (ap (λ (r : Progress). r.steps) c.self.view_is)
