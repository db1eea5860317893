use Rattle.std.proofs.Common.{◌∙◌, ap, ◌%◌, ◌-◌, ◌==◌, arith, ℕ}
use Rattle.std.specs.Int.{bit_at}
use Rattle.std.proofs.lemmas.Nat.{one_shl}
use Rattle.dcsp_common.proofs.WordLaws.{all_low, some_low}
use Rattle.dcsp_common.proofs.word.low_word.Goals as goal

pub returns-then-block-last : goal.returns-then-block-last
returns-then-block-last c = λ bit l. all_low c.args.block bit c.args.place l c.if-block-last.true

pub returns-then-block-last-2 : goal.returns-then-block-last-2
returns-then-block-last-2 c = λ bit l.
    ap (λ (n : ℕ). bit_at (n - 1) bit == 1) (one_shl (c.args.place % 64) 64 (omega arith))
    ∙ some_low c.args.block bit c.args.place l c.if-block-last-2.true
