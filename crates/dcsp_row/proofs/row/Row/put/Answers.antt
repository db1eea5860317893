use Rattle.std.proofs.Common.{◌≡◌, ◌<◌, ◌≤◌, ◌*◌, ◌/◌, ◌∙◌, ap, arith, length, get_or, set, List, Bool}
use Rattle.std.specs.Int.{bit_at}
use Rattle.std.proofs.lemmas.List.{get_or_default}
use Rattle.dcsp_row.proofs.BitLaws.{size_of_marks, mark_put}
use Rattle.dcsp_row.proofs.row.Row.put.Goals as goal

pub index_mut-word-requires : goal.index_mut-word-requires
index_mut-word-requires c =
    let size = size_of_marks c.self.inside.size c.self.inside.words.items in
    let all = ap length c.self.view_is in
    let room : c.self.inside.size ≤ 64 * length c.self.inside.words.items = c.self.invariant in
    omega (arith, size, all, room, c.requires)

pub returns : goal.returns
returns c =
    let words = c.self.inside.words.items in
    let place = c.args.place in
    let size = size_of_marks c.self.inside.size words in
    let all = ap length c.self.view_is in
    let room : c.self.inside.size ≤ 64 * length words = c.self.invariant in
    let within : place < c.self.inside.size = omega (arith, size, all, c.requires) in
    let inside : place / 64 < length words = omega (arith, room, within) in
    let old = c.index_mut-word.result.now in
    let was : old ≡ get_or words (place / 64) 0 = c.index_mut-word.ensures.value ∙ get_or_default words (place / 64) old 0 inside in
    mark_put c.self.inside.size place c.with_bit.result words c.args.mark within room c.with_bit.ensures.here
    (λ other l apart. c.with_bit.ensures.others other l apart ∙ ap (λ w. bit_at w other) was)
    ∙ ap (λ (row : List Bool). set row place c.args.mark) c.self.view_is
