use Rattle.std.proofs.Common.{◌≡◌, ◌∙◌, [], arith, ap, length, sym, subst}
use Rattle.std.specs.Prelude.{Some, slice_get}
use Rattle.std.proofs.lemmas.Option.{get_or_from_slice_get}
use Rattle.dcsp_problem.specs.declared.problem.SharedPart.{SharedPart}
use Rattle.dcsp_rule.specs.Problems.{Contents, csp_of}
use Rattle.dcsp_problem.specs.Lower.{lower_owners}
use Rattle.dcsp_problem.proofs.OwnerLists.{length-map_below}
use Rattle.dcsp_problem.proofs.RisingNumbers.{In-get_or}
use Rattle.dcsp_problem.proofs.LowerLists.{lower_at, lower_inside}
use Rattle.dcsp_problem.proofs.problem.Problem.lower_owners.Goals as goal

pub list-requires : goal.list-requires
list-requires c =
    let p : Contents = record { domains = c.self.inside.domains.items; rules = c.self.inside.shared.value.rules; outputs = c.self.inside.shared.value.outputs.items; aim = c.self.inside.aim } in
    let size = ap length c.self.invariant.each_lower in
    let many = length-map_below (lower_owners (csp_of p)) (length p.domains) in
    let same = ap (λ z. length z.domains) c.self.view_is in
    let here = ap (λ (z : SharedPart). length z.tables.lower) c.deref.ensures in
    omega (arith, c.requires)

pub returns-clause-owners : goal.returns-clause-owners
returns-clause-owners c =
    let p : Contents = record { domains = c.self.inside.domains.items; rules = c.self.inside.shared.value.rules; outputs = c.self.inside.shared.value.outputs.items; aim = c.self.inside.aim } in
    let same = ap (λ z. length z.domains) c.self.view_is in
    sym (get_or_from_slice_get c.self.inside.shared.value.tables.lower c.args.var c.list.result.now [] (subst (λ (z : SharedPart). slice_get z.tables.lower c.args.var ≡ Some c.list.result.now) c.deref.ensures c.list.ensures))
    ∙ lower_at p c.self.inside.shared.value.tables.lower c.args.var [] c.self.invariant.each_lower (omega (arith, c.requires))
    ∙ ap (λ z. lower_owners (csp_of z) c.args.var) c.self.view_is

pub returns-clause-inside : goal.returns-clause-inside
returns-clause-inside c = λ k d l. lower_inside c.args.self.now c.args.var _ (In-get_or (lower_owners (csp_of c.args.self.now) c.args.var) k d l)
