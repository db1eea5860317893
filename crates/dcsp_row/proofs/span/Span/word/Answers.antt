use Rattle.std.proofs.Common.{◌≡◌, ◌==◌, false, ◌+◌, ◌*◌, ◌∙◌, ap, sym, not, cond, Bool, arith}
use Rattle.std.proofs.lemmas.Bool.{ne_eqb}
use Rattle.dcsp_row.specs.Spans.{is_between}
use Rattle.dcsp_row.proofs.WordLaws.{other_bit}
use Rattle.dcsp_row.proofs.span.Span.word.Goals as goal

pub returns-then-self-ne0 : goal.returns-then-self-ne0
returns-then-self-ne0 c = λ bit l.
    let span = c.args.self in
    let between = is_between span.from span.to (c.args.block * 64 + bit) in
    let others : (span.outside == 0) ≡ false = ne_eqb span.outside 0 c.if-self-ne0.true in
    other_bit c.word_between-between.result bit (omega arith) l ∙ ap not (c.word_between-between.ensures bit l) ∙ sym (ap (λ (b : Bool). cond b between (not between)) others)
