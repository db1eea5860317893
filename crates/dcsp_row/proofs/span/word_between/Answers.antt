use Rattle.std.proofs.Common.{◌+◌, ◌*◌, ◌==◌, ◌&&◌, ◌∙◌, ap, not, arith, nat_lt, w64}
use Rattle.std.specs.Int.{bit_at, bit_not}
use Rattle.dcsp_row.proofs.WordLaws.{other_bit, shared_bit}
use Rattle.dcsp_row.proofs.span.word_between.Goals as goal

pub returns : goal.returns
returns c = λ bit l.
    let high = c.low_word.result in
    let low = c.low_word-2.result in
    shared_bit high (bit_not w64 low) bit ∙ ap (λ b. b && (bit_at (bit_not w64 low) bit == 1)) (c.low_word.ensures bit l)
    ∙ ap (λ b. nat_lt (c.args.block * 64 + bit) c.args.to && b) (other_bit low bit (omega arith) l ∙ ap not (c.low_word-2.ensures bit l))
