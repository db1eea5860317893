use Rattle.std.proofs.Common.{◌≡◌, ◌<◌, ◌≤◌, ◌*◌, ◌/◌, ◌%◌, ◌==◌, ◌∙◌, ap, sym, false, length, get_or, arith, ℕ, List, Bool}
use Rattle.std.specs.Int.{bit_at}
use Rattle.std.specs.Vec.{with_items}
use Rattle.std.proofs.lemmas.List.{ext_get_or, with_items_is}
use Rattle.dcsp_row.specs.Bits.{has_bit, marks_of}
use Rattle.dcsp_row.proofs.BitLaws.{size_of_marks, mark_at}
use Rattle.dcsp_row.proofs.row.Row.copy_from.Goals as goal

pub returns : goal.returns
returns c =
    let size = c.self.inside.size in
    let words = c.copy_words.new.words in
    let others = c.other.inside.words.items in
    let kept = (with_items c.self.inside.words words).items in
    let room : size ≤ 64 * length c.self.inside.words.items = c.self.invariant in
    let as_many = c.copy_words.auto.words ∙ c.deref_mut.ensures.len in
    let mine : length c.args.self.now ≡ size = sym (ap length c.self.view_is) ∙ size_of_marks size c.self.inside.words.items in
    let theirs : length c.args.other.now ≡ c.other.inside.size = sym (ap length c.other.view_is) ∙ size_of_marks c.other.inside.size others in
    ext_get_or false (marks_of size kept) c.args.other.now (size_of_marks size kept ∙ sym mine ∙ sym c.requires)
    (λ k l.
    let within : k < size = omega (arith, l, size_of_marks size kept) in
    let inside : k / 64 < length words = omega (arith, within, room, as_many) in
    let there : k < c.other.inside.size = omega (arith, within, mine, theirs, c.requires) in
    mark_at size kept k within ∙ ap (λ (ws : List ℕ). has_bit ws k) (with_items_is c.self.inside.words words as_many) ∙ ap (λ w. bit_at w (k % 64) == 1) (c.copy_words.ensures (k / 64) inside ∙ ap (λ (ws : List ℕ). get_or ws (k / 64) 0) c.deref.ensures.value)
    ∙ sym (mark_at c.other.inside.size others k there) ∙ ap (λ (row : List Bool). get_or row k false) c.other.view_is)
