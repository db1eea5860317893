use Rattle.std.proofs.Common.{[], ◌∷◌, ◌+◌, sym, subst, ap}
use Rattle.dcsp_defs.specs.declared.Step.{Step}
use Rattle.dcsp_script.specs.Scripts.{Append}
use Rattle.ngd_log.specs.StepText.{step_line, IsInRange}
use Rattle.line_rewrite.proofs.Lines.{step_numbered, here_writable}
use Rattle.line_rewrite.proofs.Writing.{wrote_as}
use Rattle.line_rewrite.proofs.steps.append_at.Goals as goal

pub append_step-requires-clause-number : goal.append_step-requires-clause-number
append_step-requires-clause-number g c = step_numbered c.args.steps.now c.args.place c.requires.place c.requires.writable

pub append_step-requires-clause-in_range : goal.append_step-requires-clause-in_range
append_step-requires-clause-in_range g c = subst IsInRange (sym c.in_ok-step.ensures) (here_writable c.args.steps.now c.args.place c.requires.place c.requires.writable)

pub returns-clause-wrote : goal.returns-clause-wrote
returns-clause-wrote g c = λ out.
    wrote_as (ap (λ (s : Step). Append c.args.name.now (step_line (c.args.place + 1) s) ∷ []) c.in_ok-step.ensures) (c.append_step.ensures.wrote out)
