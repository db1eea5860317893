use Rattle.std.proofs.Common.{[], ◌∷◌, subst, sym, refl, ap, ◌∙◌}
use Rattle.std.specs.Prelude.{Contains}
use Rattle.dcsp_script.specs.Scripts.{Append}
use Rattle.dcsp_script.proofs.Left.{left_all, left_more, left_stopped, left_ends}
use Rattle.dcsp_script.proofs.Lines.{wrote_nothing}
use Rattle.rup_check.specs.ProofText.{clause_line}
use Rattle.line_rewrite.proofs.Writing.{wrote_as, left_memory}
use Rattle.line_export.specs.Clauses.{Clause}
use Rattle.line_export.proofs.Written.{step_in, steps_left, steps_done}
use Rattle.line_export.proofs.write.append_steps.Goals as goal

pub loop-step-init : goal.loop-step-init
loop-step-init g c = record { left = λ out. left_all _ _; created = c.requires.created; same = refl }

pub nogood_clause-requires-clause-pairs : goal.nogood_clause-requires-clause-pairs
nogood_clause-requires-clause-pairs g c = (step_in c.args.atoms.now.problem.now c.args.steps.now c.loop-step.step-index c.step-item.result c.loop-step-test.true c.step-item.is c.requires.steps).pairs

pub returns-in_err-clause : goal.returns-in_err-clause
returns-in_err-clause g c = λ out. left_memory _ c.from_residual.ensures (c.loop-step.invariant.left out)

pub returns-in_err-append_clause : goal.returns-in_err-append_clause
returns-in_err-append_clause g c =
    let line = ap (λ (clause : Clause). Append c.args.name.now (clause_line clause) ∷ []) (c.deref.ensures.value ∙ c.in_ok-clause.ensures) in
    λ out. left_stopped _ _ _ (steps_left c.args.name.now c.args.atoms.now.problem.now c.args.steps.now c.loop-step.step-index c.step-item.result c.loop-step-test.true c.step-item.is) c.from_residual-in_err-append_clause.ensures
    (c.loop-step.invariant.left out) (wrote_as line (c.in_err-append_clause.ensures.wrote out))

pub loop-step-preserved : goal.loop-step-preserved
loop-step-preserved g c =
    let line = ap (λ (clause : Clause). Append c.args.name.now (clause_line clause) ∷ []) (c.deref.ensures.value ∙ c.in_ok-clause.ensures) in
    record {
      left = λ out. left_more _ (steps_left c.args.name.now c.args.atoms.now.problem.now c.args.steps.now c.loop-step.step-index c.step-item.result c.loop-step-test.true c.step-item.is) (c.loop-step.invariant.left out)
          (wrote_as line (c.in_ok-append_clause.ensures.wrote out));
      created = subst (λ names. Contains names c.args.name.now) (sym c.in_ok-append_clause.ensures.created) c.loop-step.invariant.created;
      same = c.in_ok-append_clause.ensures.created ∙ c.loop-step.invariant.same;
    }

pub returns : goal.returns
returns g c = λ out. left_ends _ (steps_done c.args.name.now c.args.atoms.now.problem.now c.args.steps.now c.loop-step.step-index c.loop-step-test.false) (c.loop-step.invariant.left out) wrote_nothing
