use Rattle.std.proofs.Common.{◌<◌, ◌≤◌, ◌*◌, ◌/◌, ◌%◌, ◌∙◌, ap, sym, arith, length, get_or, nat_eq, false, ℕ, List, Bool}
use Rattle.std.specs.Int.{bit_at}
use Rattle.std.proofs.lemmas.List.{get_or_default}
use Rattle.std.proofs.lemmas.Nat.Bits.{shr_and_one}
use Rattle.dcsp_row.proofs.BitLaws.{size_of_marks, mark_at}
use Rattle.dcsp_row.proofs.row.Row.has.Goals as goal

pub index-requires : goal.index-requires
index-requires c =
    let size = size_of_marks c.self.inside.size c.self.inside.words.items in
    let all = ap length c.self.view_is in
    let room : c.self.inside.size ≤ 64 * length c.self.inside.words.items = c.self.invariant in
    omega (arith, size, all, room, c.requires)

pub returns : goal.returns
returns c =
    let words = c.self.inside.words.items in
    let place = c.args.place in
    let size = size_of_marks c.self.inside.size words in
    let all = ap length c.self.view_is in
    let room : c.self.inside.size ≤ 64 * length words = c.self.invariant in
    let within : place < c.self.inside.size = omega (arith, size, all, c.requires) in
    let inside : place / 64 < length words = omega (arith, room, within) in
    ap (λ (n : ℕ). nat_eq n 1) (shr_and_one c.index.result.now (place % 64) ∙ ap (λ w. bit_at w (place % 64)) (c.index.ensures ∙ get_or_default words (place / 64) c.index.result.now 0 inside))
    ∙ sym (mark_at c.self.inside.size words place within) ∙ ap (λ (row : List Bool). get_or row place false) c.self.view_is
