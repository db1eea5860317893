use Rattle.std.proofs.Common.{◌∙◌, arith, ap, get_or, length, subst}
use Rattle.dcsp_problem.specs.declared.problem.SharedPart.{SharedPart}
use Rattle.dcsp_rule.specs.Problems.{Contents, rule_at}
use Rattle.dcsp_rule.specs.Forms.{IsFormOf}
use Rattle.dcsp_rule.proofs.FormLaws.{form_at}
use Rattle.dcsp_problem.proofs.problem.Problem.form.Goals as goal

pub returns-clause-form : goal.returns-clause-form
returns-clause-form c =
    let p : Contents = record { domains = c.self.inside.domains.items; rules = c.self.inside.shared.value.rules; outputs = c.self.inside.shared.value.outputs.items; aim = c.self.inside.aim } in
    let same = ap (λ z. length z.rules) c.self.view_is in
    let is = c.index.ensures ∙ ap (λ (z : SharedPart). get_or z.tables.forms.items c.args.rule c.index.result.now) c.deref.ensures in
    let here = form_at c.self.inside.shared.value.tables.forms.items p.rules c.args.rule c.index.result.now c.self.invariant.each_form (omega (arith, c.requires, same)) is in
    subst (λ (z : Contents). IsFormOf c.index.result.now (rule_at z c.args.rule)) c.self.view_is here
