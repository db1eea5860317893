use Rattle.std.proofs.Common.{◌≡◌, ◌∷◌, ◌++◌, [], refl, sym, ap, ◌∙◌, subst, None}
use Rattle.std.proofs.lemmas.Result.{on_ok_weaker}
use Rattle.dcsp_defs.specs.declared.entry.Entry.TheVariants.{Delete}
use Rattle.dcsp_rule.specs.Problems.{Contents, csp_of}
use Rattle.ngd_check.specs.Findings.{IsFirstWrongDeletion}
use Rattle.ngd_check.specs.Progress.{Progress, HasTaken, HasKept}
use Rattle.ngd_check.proofs.Steps.{progress_deletion, progress_wrong_deletion, kept_deletion, kept_wrong}
use Rattle.ngd_check.proofs.KeptLists.{on_ok_always}
use Rattle.ngd_check.proofs.checker.Checker.take_deletion.Goals as goal

pub returns-then-has_each-clause-taken : goal.returns-then-has_each-clause-taken
returns-then-has_each-clause-taken c entries h =
    let q : Progress = record { problem = c.self.inside.kept.problem; kept = c.self.inside.kept.nogoods; ends_empty = c.self.inside.ends_empty; wrong = c.self.inside.wrong; keeps = c.self.inside.kept.keeps; steps = c.self.inside.kept.steps } in
    let going : q.wrong ≡ None = ap (λ (r : Progress). r.wrong) c.self.view_is ∙ c.requires in
    let before : HasTaken entries q = subst (HasTaken entries) (sym c.self.view_is) h in
    on_ok_weaker c.drop_each.result (λ dropped.
    subst (λ (p : Contents). HasTaken (entries ++ Delete c.args.numbers.now ∷ []) (record { problem = p; kept = c.drop_each.new.self.nogoods; ends_empty = q.ends_empty; wrong = q.wrong; keeps = c.drop_each.new.self.keeps; steps = c.drop_each.new.self.steps })) (sym c.drop_each.ensures.problem)
    (progress_deletion q going entries before c.args.numbers.now c.drop_each.new.self.nogoods (c.if-has_each.ensures.0 refl) c.drop_each.ensures.count dropped)) c.drop_each.ensures.dropped

pub returns-then-has_each-clause-kept : goal.returns-then-has_each-clause-kept
returns-then-has_each-clause-kept c entries h =
    let q : Progress = record { problem = c.self.inside.kept.problem; kept = c.self.inside.kept.nogoods; ends_empty = c.self.inside.ends_empty; wrong = c.self.inside.wrong; keeps = c.self.inside.kept.keeps; steps = c.self.inside.kept.steps } in
    let going : q.wrong ≡ None = ap (λ (r : Progress). r.wrong) c.self.view_is ∙ c.requires in
    on_ok_always c.drop_each.result (kept_deletion q _ entries (subst (HasKept entries) (sym c.self.view_is) h) c.drop_each.ensures.keeps c.args.numbers.now going c.drop_each.ensures.steps)

pub returns-clause-taken : goal.returns-clause-taken
returns-clause-taken c entries h =
    let q : Progress = record { problem = c.self.inside.kept.problem; kept = c.self.inside.kept.nogoods; ends_empty = c.self.inside.ends_empty; wrong = c.self.inside.wrong; keeps = c.self.inside.kept.keeps; steps = c.self.inside.kept.steps } in
    let going : q.wrong ≡ None = ap (λ (r : Progress). r.wrong) c.self.view_is ∙ c.requires in
    let before : HasTaken entries q = subst (HasTaken entries) (sym c.self.view_is) h in
    let first = progress_wrong_deletion q going entries before c.args.numbers.now (λ r. let t = c.if-has_each.ensures.1 r in cc) in
    subst (IsFirstWrongDeletion (csp_of q.problem) (entries ++ Delete c.args.numbers.now ∷ [])) (sym c.len.ensures.len) first

pub returns-clause-kept : goal.returns-clause-kept
returns-clause-kept c entries h =
    kept_wrong c.args.self.now _ entries h (ap (λ (r : Progress). r.keeps) c.self.view_is) _ _ refl (ap (λ (r : Progress). r.steps) c.self.view_is)
