use Rattle.dcsp_defs.specs.Csp.{Csp}
use Rattle.std.proofs.Common.{◌≡◌, ℕ, ◌+◌, ◌-◌, ◌≤◌, Some, List, take, slice_get, [], ◌∷◌, ◌++◌, refl, length, sym, ◌∙◌, ap, subst, arith, add-one}
use Rattle.std.proofs.lemmas.List.{take_more, take_all}
use Rattle.dcsp_defs.proofs.Derivations.{derivation_push}
use Rattle.std.proofs.lemmas.Option.{slice_get-get_or}
use Rattle.dcsp_defs.specs.declared.Step.{Step}
use Rattle.dcsp_defs.specs.Derivation.{IsDerivation}
use Rattle.dcsp_rule.specs.Problems.{csp_of}
use Rattle.ngd_check.proofs.Citing.{right_to, right_from}
use Rattle.ngd_check.proofs.finding_of.Goals as goal

pub returns-then-not-is_right-clause-exact : goal.returns-then-not-is_right-clause-exact
returns-then-not-is_right-clause-exact c =
    let place = c.loop-place.place in
    let step = c.index-steps-place.result in
    let there : slice_get c.args.steps.now place ≡ Some step = slice_get-get_or c.args.steps.now place step (omega arith) ∙ ap Some (sym c.index-steps-place.is) in
    let before : place + 1 - 1 ≡ place = omega arith in
    record {
      step = step;
      there = rw add-one there;
      right_before = rw before c.loop-place.invariant;
      wrong = λ h. let t = c.if-not-is_right.ensures.1 (right_to (csp_of c.args.problem.now) (take place c.args.steps.now) step (rw before at h)) in cc;
    }

pub loop-place-preserved : goal.loop-place-preserved
loop-place-preserved c =
    let place = c.loop-place.place in
    let step = c.index-steps-place.result in
    let more : take (place + 1) c.args.steps.now ≡ take place c.args.steps.now ++ step ∷ [] = take_more c.args.steps.now place step (omega arith) ∙ ap (λ (s : Step). take place c.args.steps.now ++ s ∷ []) (sym c.index-steps-place.is) in
    rw more (derivation_push (csp_of c.args.problem.now) (take place c.args.steps.now) step c.loop-place.invariant (right_from (csp_of c.args.problem.now) (take place c.args.steps.now) step (c.if-not-is_right.ensures.0 refl)))

-- after the loop each step is right
all_right : (p : Csp) (steps : List Step) (place : ℕ) → length steps ≤ place → IsDerivation p (take place steps) → IsDerivation p steps
all_right p steps place past h = subst (IsDerivation p) (take_all place steps past) h

pub returns-then-ends_empty-clause-exact : goal.returns-then-ends_empty-clause-exact
returns-then-ends_empty-clause-exact c = record {
  right = all_right (csp_of c.args.problem.now) c.args.steps.now c.loop-place.place (omega arith) c.loop-place.invariant;
  ends = c.if-ends_empty.ensures.0 refl;
}

pub returns-else-ends_empty-clause-exact : goal.returns-else-ends_empty-clause-exact
returns-else-ends_empty-clause-exact c = record {
  right = all_right (csp_of c.args.problem.now) c.args.steps.now c.loop-place.place (omega arith) c.loop-place.invariant;
  not_empty = λ h. let t = c.if-ends_empty.ensures.1 h in cc;
}
