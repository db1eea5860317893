use Rattle.std.proofs.Common.{ℕ, Err, ap, ◌∙◌}
use Rattle.std.specs.declared.alloc.Global.{Global}
use Rattle.std.specs.declared.vec.Vec.{Vec}
use Rattle.ngd_rewrite.specs.Endings.{AreEnds}
use Rattle.ngd_rewrite.proofs.LogEnds.{come_none, with_head, without_head, log_read, not_read}
use Rattle.ngd_rewrite.proofs.log.ends_of_log.Goals as goal

pub returns-then-starts_with : goal.returns-then-starts_with
returns-then-starts_with c = with_head c.args.text.now c.starts_with.result c.starts_with.ensures.value c.if-starts_with.true

pub take_lines-requires : goal.take_lines-requires
take_lines-requires c = come_none c.new-reader.result c.new-ends.result.items c.new-reader.ensures c.new-ends.ensures.items

pub returns-in-Ok-finish : goal.returns-in-Ok-finish
returns-in-Ok-finish c =
    let text = c.args.text.now in
    let come = c.in-Ok.ensures in
    (log_read text (without_head text c.starts_with.result c.starts_with.ensures.value c.if-starts_with.false) (c.in-Ok-finish.ensures.log text come.fed), come.are_ends)

pub returns : goal.returns
returns c =
    let text = c.args.text.now in
    let come = c.in-Ok.ensures in
    not_read (Vec ℕ Global) (λ steps ends. AreEnds steps ends.items) text c.in-Err.error (without_head text c.starts_with.result c.starts_with.ensures.value c.if-starts_with.false) (λ number e. c.finish.ensures.line number (c.in-Err.is ∙ ap Err e) text come.fed)
