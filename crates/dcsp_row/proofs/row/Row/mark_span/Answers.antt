use Rattle.std.proofs.Common.{◌<◌, ◌≤◌, ◌*◌, ◌/◌, ◌∙◌, ap, length, arith, ℕ, List}
use Rattle.std.specs.Vec.{with_items}
use Rattle.std.proofs.lemmas.List.{with_items_is}
use Rattle.dcsp_row.specs.Bits.{has_bit}
use Rattle.dcsp_row.proofs.BitLaws.{size_of_marks, mark_at}
use Rattle.dcsp_row.proofs.row.Row.mark_span.Goals as goal

pub returns-clause-marks : goal.returns-clause-marks
returns-clause-marks c = λ k l.
    let size = c.self.inside.size in
    let words = c.fill_span.new.words in
    let kept = (with_items c.self.inside.words words).items in
    let all = size_of_marks size kept in
    let within : k < size = omega (arith, all, l) in
    let room : size ≤ 64 * length c.self.inside.words.items = c.self.invariant in
    let as_many = c.fill_span.auto.words ∙ c.deref_mut.ensures.len in
    let inside : k / 64 < length words = omega (arith, within, room, as_many) in
    mark_at size kept k within ∙ ap (λ (ws : List ℕ). has_bit ws k) (with_items_is c.self.inside.words words as_many) ∙ c.fill_span.ensures k inside
