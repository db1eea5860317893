use Rattle.std.proofs.Common.{◌≡◌, ◌<◌, arith, ap, length, ◌∙◌, sym, subst}
use Rattle.std.specs.Prelude.{Some, slice_get}
use Rattle.std.proofs.lemmas.List.{length-map}
use Rattle.std.proofs.lemmas.Option.{get_or_from_slice_get}
use Rattle.dcsp_problem.specs.declared.problem.SharedPart.{SharedPart}
use Rattle.dcsp_rule.specs.Rules.{scope_of}
use Rattle.dcsp_rule.specs.Problems.{Contents, rule_at}
use Rattle.dcsp_problem.proofs.Reading.{scope_is, scope_inside, constraint_ok}
use Rattle.dcsp_problem.proofs.problem.Problem.scope.Goals as goal

pub list-requires : goal.list-requires
list-requires c =
    let p : Contents = record { domains = c.self.inside.domains.items; rules = c.self.inside.shared.value.rules; outputs = c.self.inside.shared.value.outputs.items; aim = c.self.inside.aim } in
    let size = ap length c.self.invariant.each_scope in
    let many = length-map p.rules (scope_of (length p.domains)) in
    let same = ap (λ z. length z.rules) c.self.view_is in
    let here = ap (λ (z : SharedPart). length z.tables.scopes) c.deref.ensures in
    omega (arith, c.requires)

-- what the table tells is the rule's scope
scope_read : goal.returns-clause-scope
scope_read c =
    let p : Contents = record { domains = c.self.inside.domains.items; rules = c.self.inside.shared.value.rules; outputs = c.self.inside.shared.value.outputs.items; aim = c.self.inside.aim } in
    let same = ap (λ z. length z.rules) c.self.view_is in
    let in_range : c.args.rule < length p.rules = omega (arith, c.requires) in
    let scope = c.list.result.now in
    let read = get_or_from_slice_get c.self.inside.shared.value.tables.scopes c.args.rule scope scope (subst (λ (z : SharedPart). slice_get z.tables.scopes c.args.rule ≡ Some scope) c.deref.ensures c.list.ensures) in
    scope_is p c.self.inside.shared.value.tables.scopes c.args.rule scope c.self.invariant.each_scope in_range (sym read) ∙ ap (λ z. scope_of (length z.domains) (rule_at z c.args.rule)) c.self.view_is

pub returns-clause-scope : goal.returns-clause-scope
returns-clause-scope c = scope_read c

pub returns-clause-inside : goal.returns-clause-inside
returns-clause-inside c = rw (scope_read c) (scope_inside (length c.args.self.now.domains) (rule_at c.args.self.now c.args.rule))

pub returns-clause-constraint : goal.returns-clause-constraint
returns-clause-constraint c =
    let same = ap (λ z. length z.rules) c.self.view_is in
    rw (← c.self.view_is) (constraint_ok _ c.args.rule c.self.invariant.problem (omega arith))
