use Rattle.std.proofs.Common.{◌≡◌, ◌<◌, ◌+◌, ◌*◌, ◌/◌, ◌%◌, ◌==◌, ◌∙◌, ap, sym, arith, length, get_or, false, ℕ, List, Bool}
use Rattle.std.specs.Int.{bit_at}
use Rattle.dcsp_row.proofs.BitLaws.{size_of_marks, mark_at}
use Rattle.dcsp_row.proofs.row.Row.word.Goals as goal

pub returns : goal.returns
returns c = λ bit l within.
    let words = c.self.inside.words.items in
    let block = c.args.block in
    let place = block * 64 + bit in
    let size = size_of_marks c.self.inside.size words in
    let inside : place < c.self.inside.size = omega (arith, size, ap length c.self.view_is, within) in
    let word = c.word_of.ensures ∙ ap (λ (ws : List ℕ). get_or ws block 0) c.deref.ensures.value in
    let at : place / 64 ≡ block = omega (arith, l) in
    let rest : place % 64 ≡ bit = omega (arith, l) in
    ap (λ w. bit_at w bit == 1) word ∙ sym (ap (λ n. bit_at (get_or words n 0) bit == 1) at) ∙ sym (ap (λ n. bit_at (get_or words (place / 64) 0) n == 1) rest)
    ∙ sym (mark_at c.self.inside.size words place inside) ∙ ap (λ (row : List Bool). get_or row place false) c.self.view_is
