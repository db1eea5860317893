use Rattle.std.proofs.Common.{refl}
use Rattle.line_rewrite.proofs.Lines.{core_stopped, core_told}
use Rattle.line_rewrite.proofs.trimming.write_core.Goals as goal

pub returns-in_err-write_steps : goal.returns-in_err-write_steps
returns-in_err-write_steps g c =
    core_stopped c.args.trimmed.now c.args.refuted.problem.now c.args.refuted.steps.now c.args.refuted.core.now c.args.refuted.core.now.steps refl _ c.from_residual.ensures (c.in_err-write_steps.ensures _)

pub returns : goal.returns
returns g c =
    core_told c.args.trimmed.now c.args.refuted.problem.now c.args.refuted.steps.now c.args.refuted.core.now c.args.refuted.core.now.steps refl _ _ c.rules-rules.ensures.rules c.len.ensures.len (c.in_ok-write_steps.ensures _) (c.tell.ensures _)
