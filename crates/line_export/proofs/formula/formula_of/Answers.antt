use Rattle.std.proofs.Common.{◌+◌, List, [], drop, sym, ap, ◌∙◌}
use Rattle.std.specs.Prelude.{flat_map}
use Rattle.std.proofs.lemmas.List.{drop_all}
use Rattle.dcsp_defs.specs.declared.Step.{Step}
use Rattle.line_export.specs.Clauses.{Clause, step_clauses, with_clauses, value_clauses}
use Rattle.line_export.proofs.Once.{with_both, from_here}
use Rattle.line_export.proofs.formula.formula_of.Goals as goal

pub loop-step-init : goal.loop-step-init
loop-step-init c =
    let p = c.args.atoms.now.problem.now in
    let rest = flat_map (step_clauses p) c.args.steps.now in
    ap (λ (cs : List Clause). with_clauses cs rest) (c.in_ok-add_values.ensures ∙ ap (λ (cs : List Clause). with_clauses cs (value_clauses p)) c.new-clauses.ensures) ∙ sym (with_both [] (value_clauses p) rest)

pub loop-step-preserved : goal.loop-step-preserved
loop-step-preserved c =
    let p = c.args.atoms.now.problem.now in
    let steps = c.args.steps.now in
    let k = c.loop-step.step-index in
    let s = c.step-item.result in
    let rest = flat_map (step_clauses p) (drop (k + 1) steps) in
    ap (λ (cs : List Clause). with_clauses cs rest) c.in_ok-add_step.ensures ∙ sym (with_both c.loop-step.clauses (step_clauses p s) rest)
    ∙ ap (λ (ss : List Step). with_clauses c.loop-step.clauses (flat_map (step_clauses p) ss)) (sym (from_here steps k s s c.loop-step-test.true c.step-item.is)) ∙ c.loop-step.invariant

pub returns : goal.returns
returns c =
    let p = c.args.atoms.now.problem.now in
    sym (ap (λ (ss : List Step). with_clauses c.loop-step.clauses (flat_map (step_clauses p) ss)) (drop_all c.loop-step.step-index c.args.steps.now c.loop-step-test.false)) ∙ c.loop-step.invariant
