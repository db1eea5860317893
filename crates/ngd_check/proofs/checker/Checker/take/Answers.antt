use Rattle.std.proofs.Common.{refl, sym, ap, ◌∙◌}
use Rattle.ngd_check.specs.Progress.{Progress}
use Rattle.ngd_check.proofs.Steps.{progress_stays_lent, found_some, kept_wrong}
use Rattle.ngd_check.proofs.checker.Checker.take.Goals as goal

pub returns-then-is_some-clause-taken : goal.returns-then-is_some-clause-taken
returns-then-is_some-clause-taken c entries h =
    let found = found_some c.self.inside.wrong (sym c.is_some.ensures ∙ c.if-is_some.true) in
    progress_stays_lent c.args.self.now found.0 entries c.args.entry.now (sym (ap (λ (q : Progress). q.wrong) c.self.view_is) ∙ found.1) h

pub returns-then-is_some-clause-kept : goal.returns-then-is_some-clause-kept
returns-then-is_some-clause-kept c entries h =
    let found = found_some c.self.inside.wrong (sym c.is_some.ensures ∙ c.if-is_some.true) in
    kept_wrong c.args.self.now c.args.self.now entries h refl _ found.0 (sym (ap (λ (q : Progress). q.wrong) c.self.view_is) ∙ found.1) refl
