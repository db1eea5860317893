use Rattle.std.proofs.Common.{◌≡◌, ◌∙◌, [], arith, ap, length, sym, subst}
use Rattle.std.specs.Prelude.{Some, slice_get}
use Rattle.std.proofs.lemmas.Option.{get_or_from_slice_get}
use Rattle.dcsp_problem.specs.declared.problem.SharedPart.{SharedPart}
use Rattle.dcsp_rule.specs.Problems.{Contents}
use Rattle.dcsp_problem.specs.Index.{owned_rules}
use Rattle.dcsp_problem.proofs.OwnerLists.{owned_at, owned_inside, length-map_below}
use Rattle.dcsp_problem.proofs.problem.Problem.owned.Goals as goal

pub list-requires : goal.list-requires
list-requires c =
    let size = ap length c.self.invariant.each_owned in
    let many = length-map_below (owned_rules (record { domains = c.self.inside.domains.items; rules = c.self.inside.shared.value.rules; outputs = c.self.inside.shared.value.outputs.items; aim = c.self.inside.aim })) (length c.self.inside.domains.items) in
    let same = ap (λ z. length z.domains) c.self.view_is in
    let here = ap (λ (z : SharedPart). length z.tables.owned) c.deref.ensures in
    omega (arith, c.requires)

pub returns-clause-rules : goal.returns-clause-rules
returns-clause-rules c =
    let p : Contents = record { domains = c.self.inside.domains.items; rules = c.self.inside.shared.value.rules; outputs = c.self.inside.shared.value.outputs.items; aim = c.self.inside.aim } in
    let same = ap (λ z. length z.domains) c.self.view_is in
    sym (get_or_from_slice_get c.self.inside.shared.value.tables.owned c.args.var c.list.result.now [] (subst (λ (z : SharedPart). slice_get z.tables.owned c.args.var ≡ Some c.list.result.now) c.deref.ensures c.list.ensures))
    ∙ owned_at p c.self.inside.shared.value.tables.owned c.args.var [] c.self.invariant.each_owned (omega (arith, c.requires))
    ∙ ap (λ z. owned_rules z c.args.var) c.self.view_is

pub returns-clause-inside : goal.returns-clause-inside
returns-clause-inside c = owned_inside c.args.self.now c.args.var
