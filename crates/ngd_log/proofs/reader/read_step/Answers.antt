use Rattle.std.proofs.Common.{◌≡◌, sym, subst, ◌∙◌, ◌<◌, length, arith}
use Rattle.std.proofs.lemmas.List.{nil_from_length}
use Rattle.dcsp_defs.specs.declared.Step.{Step}
use Rattle.ngd_log.specs.StepText.{IsStepLine}
use Rattle.ngd_log.specs.Lent.{step_in}
use Rattle.ngd_log.proofs.LineLaws.{whole_takes, some_left, failed}
use Rattle.ngd_log.proofs.reader.read_step.Goals as goal

pub step-requires : goal.step-requires
step-requires c =
    let rest = c.in-Ok-empty.field-0.now in
    let below = c.in-Ok-empty.len_below in
    (whole_takes c.args.number c.args.line.now (step_in c.step_front.new.gathered) rest c.in-Ok-empty.ensures (nil_from_length rest (omega (arith, below)))).writable.rising

pub returns-in-Ok-copy-clause-step : goal.returns-in-Ok-copy-clause-step
returns-in-Ok-copy-clause-step c =
    let rest = c.in-Ok-empty.field-0.now in
    let below = c.in-Ok-empty.len_below in
    subst (λ (s : Step). IsStepLine c.args.number c.args.line.now s) (sym (c.in-Ok-copy.ensures ∙ c.step.ensures))
    (whole_takes c.args.number c.args.line.now (step_in c.step_front.new.gathered) rest c.in-Ok-empty.ensures (nil_from_length rest (omega (arith, below))))

pub returns-in-Ok-clause-bad : goal.returns-in-Ok-clause-bad
returns-in-Ok-clause-bad c = λ e.
    let some = c.in-Ok.len_at_least in
    some_left c.args.number c.args.line.now (step_in c.step_front.new.gathered) c.in-Ok.field-0.now c.in-Ok.ensures (omega (arith, some))

pub returns-in-Err-clause-bad : goal.returns-in-Err-clause-bad
returns-in-Err-clause-bad c = failed c.args.number c.args.line.now c.in-Err.error c.in-Err.ensures
