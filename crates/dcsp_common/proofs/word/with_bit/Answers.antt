use Rattle.std.proofs.Common.{◌∙◌, ap, sym, ℕ, ◌==◌, w64}
use Rattle.std.proofs.lemmas.Nat.Bits.{bit_at_set_same, bit_at_set_other, bit_at_clear_same, bit_at_clear_other}
use Rattle.dcsp_common.proofs.word.with_bit.Goals as goal

pub returns-then-mark-clause-here : goal.returns-then-mark-clause-here
returns-then-mark-clause-here c = ap (λ (b : ℕ). b == 1) (bit_at_set_same w64 c.args.word c.args.bit c.requires) ∙ sym c.if-mark.true

pub returns-then-mark-clause-others : goal.returns-then-mark-clause-others
returns-then-mark-clause-others c = λ other within apart. bit_at_set_other w64 c.args.word c.args.bit c.requires other apart

pub returns-else-mark-clause-here : goal.returns-else-mark-clause-here
returns-else-mark-clause-here c = ap (λ (b : ℕ). b == 1) (bit_at_clear_same w64 c.args.word c.args.bit c.requires) ∙ sym c.if-mark.false

pub returns-else-mark-clause-others : goal.returns-else-mark-clause-others
returns-else-mark-clause-others c = λ other within apart. bit_at_clear_other w64 c.args.word c.args.bit c.requires other within apart
