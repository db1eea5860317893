use Rattle.std.proofs.Common.{length, ap, ◌∙◌, arith}
use Rattle.line_export.specs.Atoms.{place_in}
use Rattle.line_export.proofs.Numbering.{before_few, before_length, before_at}
use Rattle.line_export.proofs.atoms.Atoms.number.Goals as goal

pub index-requires : goal.index-requires
index-requires c = let n = before_length c.args.self.now c.requires.atoms in let v = c.requires.var in omega (arith, n, v)

pub overflow_add-result : goal.overflow_add-result
overflow_add-result c =
    let a = c.args in
    let before = before_at a.self.now c.requires.atoms a.pair.var c.index.result.now c.requires.var c.index.ensures in
    let few = before_few a.self.now.problem.now a.pair.var c.requires.var in
    let size = ap length c.domain.ensures in
    let within = c.place_in-place.ensures.within in
    let all = c.requires.atoms.few in
    omega (arith, before, few, size, within, all)

pub overflow_add-result-2 : goal.overflow_add-result-2
overflow_add-result-2 c =
    let a = c.args in
    let before = before_at a.self.now c.requires.atoms a.pair.var c.index.result.now c.requires.var c.index.ensures in
    let few = before_few a.self.now.problem.now a.pair.var c.requires.var in
    let size = ap length c.domain.ensures in
    let within = c.place_in-place.ensures.within in
    let all = c.requires.atoms.few in
    omega (arith, before, few, size, within, all)

pub returns-clause-number : goal.returns-clause-number
returns-clause-number c =
    let a = c.args in
    let before = before_at a.self.now c.requires.atoms a.pair.var c.index.result.now c.requires.var c.index.ensures in
    let place = c.place_in-place.ensures.place ∙ ap (λ xs. place_in xs a.pair.value) c.domain.ensures in
    omega (arith, place, before)

pub returns-clause-few : goal.returns-clause-few
returns-clause-few c =
    let a = c.args in
    let before = before_at a.self.now c.requires.atoms a.pair.var c.index.result.now c.requires.var c.index.ensures in
    let few = before_few a.self.now.problem.now a.pair.var c.requires.var in
    let size = ap length c.domain.ensures in
    let within = c.place_in-place.ensures.within in
    let all = c.requires.atoms.few in
    omega (arith, before, few, size, within, all)
