use Rattle.std.proofs.Common.{Ok, Err}
use Rattle.abt_input.specs.declared.error.CommandError.TheVariants.{LogLine}
use Rattle.abt_input.proofs.OtherKinds.{read_as, unread_as}
use Rattle.line_rewrite.proofs.Reading.{not_read, is_log, is_bad}
use Rattle.line_rewrite.proofs.old_log.read_old_log.Goals as goal

pub returns-in_err-text : goal.returns-in_err-text
returns-in_err-text g c = unread_as _ c.from_residual.ensures c.in_err-text.ensures (λ bytes h. not_read bytes _ h)

pub returns-in-Ok : goal.returns-in-Ok
returns-in-Ok g c =
    read_as (Ok (record { text = c.in_ok-text.text; endings = c.in-Ok.endings })) c.in_ok-text.ensures (λ log h. is_log c.in_ok-text.text c.deref.result.now c.deref.ensures.value log h c.in-Ok.endings c.in-Ok.ensures) (λ f. let k = f in cc)

pub returns-in-Err-Line : goal.returns-in-Err-Line
returns-in-Err-Line g c =
    read_as (Err (LogLine c.in-Err-Line.number)) c.in_ok-text.ensures (λ log h. is_bad c.in_ok-text.text c.deref.result.now c.deref.ensures.value log h c.in-Err-Line.number (rw c.in-Err-Line.field-0-is at c.in-Err-Line.ensures)) (λ f. let k = f in cc)
