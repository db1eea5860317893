use Rattle.std.proofs.Common.{sym, ap, ◌∙◌}
use Rattle.ngd_check.specs.Entries.{steps_of}
use Rattle.ngd_check.specs.Progress.{Progress}
use Rattle.ngd_check.proofs.Steps.{none_right, all_right}
use Rattle.ngd_check.proofs.checker.Checker.into_steps.Goals as goal

pub returns-in-Some-clause-kept : goal.returns-in-Some-clause-kept
returns-in-Some-clause-kept c entries finding taken kept keeps found =
    c.none.ensures ∙ sym (none_right c.args.self entries c.in-Some.field-0 finding (steps_of entries) (sym (ap (λ (q : Progress). q.wrong) c.self.view_is) ∙ c.in-Some.is) taken found)

pub returns-clause-kept : goal.returns-clause-kept
returns-clause-kept c entries finding taken kept keeps found =
    let going = sym (ap (λ (q : Progress). q.wrong) c.self.view_is) ∙ c.in-None.is in
    c.into_steps.ensures ∙ (ap (λ (q : Progress). q.steps) c.self.view_is ∙ (kept.all going keeps ∙ sym (all_right c.args.self entries finding (steps_of entries) going taken found)))
