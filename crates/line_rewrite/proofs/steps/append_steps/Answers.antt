use Rattle.std.proofs.Common.{subst, sym, refl, ◌∙◌, arith}
use Rattle.std.specs.Prelude.{Contains}
use Rattle.dcsp_script.proofs.Left.{left_all, left_more, left_stopped, left_ends}
use Rattle.dcsp_script.proofs.Lines.{wrote_nothing}
use Rattle.line_rewrite.proofs.Lines.{here_left, steps_done}
use Rattle.line_rewrite.proofs.steps.append_steps.Goals as goal

pub loop-place-init : goal.loop-place-init
loop-place-init g c = record { left = λ out. left_all _ _; created = c.requires.created; same = refl }

pub returns-in_err-append_at-clause-wrote : goal.returns-in_err-append_at-clause-wrote
returns-in_err-append_at-clause-wrote g c = λ out.
    left_stopped _ _ _ (here_left c.args.name.now c.args.steps.now c.loop-place.place (omega (arith, c.len-place-end.ensures))) c.from_residual.ensures (c.loop-place.invariant.left out) (c.in_err-append_at.ensures.wrote out)

pub loop-place-preserved : goal.loop-place-preserved
loop-place-preserved g c = record {
  left = λ out. left_more _ (here_left c.args.name.now c.args.steps.now c.loop-place.place (omega (arith, c.len-place-end.ensures))) (c.loop-place.invariant.left out) (c.in_ok-append_at.ensures.wrote out);
  created = subst (λ names. Contains names c.args.name.now) (sym c.in_ok-append_at.ensures.created) c.loop-place.invariant.created;
  same = c.in_ok-append_at.ensures.created ∙ c.loop-place.invariant.same;
}

pub returns-clause-wrote : goal.returns-clause-wrote
returns-clause-wrote g c = λ out. left_ends _ (steps_done c.args.name.now c.args.steps.now _ (omega (arith, c.len-place-end.ensures))) (c.loop-place.invariant.left out) wrote_nothing
