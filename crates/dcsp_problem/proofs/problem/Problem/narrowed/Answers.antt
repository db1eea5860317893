use Rattle.std.proofs.Common.{◌≡◌, ◌∙◌, length, sym, subst}
use Rattle.std.specs.Prelude.{Some}
use Rattle.dcsp_problem.specs.declared.problem.SharedPart.{SharedPart}
use Rattle.dcsp_rule.specs.Problems.{Contents}
use Rattle.dcsp_rule.specs.Aims.{aimed_at}
use Rattle.dcsp_problem.specs.Index.{IsIndexed}
use Rattle.dcsp_problem.proofs.Narrowed.{is_indexed_narrowed, aimed_below}
use Rattle.dcsp_problem.proofs.problem.Problem.narrowed.Goals as goal

pub invariant_of-result : goal.invariant_of-result
invariant_of-result c =
    let p : Contents = record { domains = c.self.inside.domains.items; rules = c.self.inside.shared.value.rules; outputs = c.self.inside.shared.value.outputs.items; aim = c.self.inside.aim } in
    let at : aimed_at p.aim ≡ Some c.unwrap-var.result = sym c.variable.ensures ∙ c.unwrap-var.ensures in
    let known = aimed_below (length p.domains) p.aim c.unwrap-var.result c.self.invariant.problem.aim at in
    let made = is_indexed_narrowed p _ c.unwrap-var.result c.in_ok-domains.domains.items _ _ _ _ known c.in_ok-domains.ensures c.self.invariant in
    subst (λ (z : SharedPart). IsIndexed (record { domains = c.in_ok-domains.domains.items; rules = z.rules; outputs = z.outputs.items; aim = c.self.inside.aim }) z.tables.scopes z.tables.forms.items z.tables.owned z.tables.lower) (sym c.in_ok-shared.ensures.cases) made
