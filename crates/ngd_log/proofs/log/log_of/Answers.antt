use Rattle.std.proofs.Common.{◌≡◌, ◌+◌, ◌++◌, ◌∷◌, List, [], ℕ, Err, length, sym, ap, subst, ◌∙◌, arith}
use Rattle.std.proofs.lemmas.List.{nil_from_length}
use Rattle.std.proofs.lemmas.Bool.{eqb-true, eqb-false}
use Rattle.ngd_log.specs.Lines.{lines}
use Rattle.ngd_log.specs.Logs.{IsFirstBad}
use Rattle.ngd_log.specs.StepText.{IsStepLine}
use Rattle.ngd_log.proofs.LogLines.{tail, head}
use Rattle.ngd_log.proofs.FirstBad.{HasFront, bad_line, log_of_front, front_more}
use Rattle.ngd_log.proofs.Answered.{bad_head_plain, bad_head_other, bad_open, bad_more, same_text, other_text, unequal_text, ok_holds}
use Rattle.ngd_log.proofs.log.log_of.Goals as goal

pub returns-in_default-clause-cause : goal.returns-in_default-clause-cause
returns-in_default-clause-cause c = bad_head_plain c.args.text.now c.in_default.ensures.none

pub returns-then-ne-clause-cause : goal.returns-then-ne-clause-cause
returns-then-ne-clause-cause c =
    bad_head_other c.args.text.now c.in-Some.first.now (lines c.in-Some.others.now) c.in-Some.ensures.first (other_text c.in-Some.first.now head c.if-ne.ensures)

pub returns-then-is_empty-clause-log : goal.returns-then-is_empty-clause-log
returns-then-is_empty-clause-log c =
    let line = c.in-Some-split_line.line.now in
    let last : line ≡ tail = same_text line tail c.if-eq.ensures in
    let none : c.in-Some-split_line.others.now ≡ [] = nil_from_length c.in-Some-split_line.others.now (eqb-true _ _ (sym c.if-is_empty.ensures)) in
    let rest : lines c.loop-line.rest.now ≡ tail ∷ [] = c.in-Some-split_line.ensures.first ∙ ap (λ (l : List ℕ). l ∷ lines c.in-Some-split_line.others.now) last ∙ ap (λ (o : List ℕ). tail ∷ lines o) none in
    log_of_front c.args.text.now c.loop-line.derivation (subst (λ (ls : List (List ℕ)). HasFront c.args.text.now c.loop-line.derivation ls) rest c.loop-line.invariant)

pub returns-then-eq-clause-cause : goal.returns-then-eq-clause-cause
returns-then-eq-clause-cause c =
    let line = c.in-Some-split_line.line.now in
    let others = c.in-Some-split_line.others.now in
    let last : line ≡ tail = same_text line tail c.if-eq.ensures in
    let rest : lines c.loop-line.rest.now ≡ tail ∷ lines others = c.in-Some-split_line.ensures.first ∙ ap (λ (l : List ℕ). l ∷ lines others) last in
    let number : length c.loop-line.derivation + 3 ≡ c.len-number.result + 1 + 2 = omega arith in
    subst (λ (n : ℕ). IsFirstBad c.args.text.now n) number
    (bad_more c.args.text.now c.loop-line.derivation c.loop-line.rest.now others c.loop-line.invariant rest (λ e. eqb-false _ _ (sym c.if-is_empty.ensures) (ap length e)))

pub returns-in-Err-Bad-clause-cause : goal.returns-in-Err-Bad-clause-cause
returns-in-Err-Bad-clause-cause c =
    let line = c.in-Some-split_line.line.now in
    let others = c.in-Some-split_line.others.now in
    let k : c.len-number.result + 1 ≡ length c.loop-line.derivation + 1 = omega arith in
    let number : length c.loop-line.derivation + 2 ≡ c.len-number.result + 1 + 1 = omega arith in
    subst (λ (n : ℕ). IsFirstBad c.args.text.now n) number
    (bad_line c.args.text.now c.loop-line.derivation line (lines others)
    (subst (λ (ls : List (List ℕ)). HasFront c.args.text.now c.loop-line.derivation ls) c.in-Some-split_line.ensures.first c.loop-line.invariant)
    (λ s is. c.read_step.ensures.bad (c.in-Err-Bad.is ∙ ap Err c.in-Err-Bad.field-0-is) s (subst (λ (n : ℕ). IsStepLine n line s) (sym k) is)) (unequal_text line tail c.if-eq.ensures))

pub loop-line-preserved : goal.loop-line-preserved
loop-line-preserved c =
    let line = c.in-Some-split_line.line.now in
    let others = c.in-Some-split_line.others.now in
    let step = c.in-Ok.step in
    let k : c.len-number.result + 1 ≡ length c.loop-line.derivation + 1 = omega arith in
    let pushed : c.push.new.self ≡ c.loop-line.derivation ++ step ∷ [] = ok_holds c.push.result _ (sym c.is_err.ensures.value ∙ c.if-is_err.false) c.push.ensures.ok in
    rw pushed (front_more c.args.text.now c.loop-line.derivation line (lines others) step
    (subst (λ (ls : List (List ℕ)). HasFront c.args.text.now c.loop-line.derivation ls) c.in-Some-split_line.ensures.first c.loop-line.invariant)
    (subst (λ (n : ℕ). IsStepLine n line step) k c.in-Ok.ensures.step))

pub returns-clause-cause : goal.returns-clause-cause
returns-clause-cause c =
    let number : length c.loop-line.derivation + 2 ≡ c.len-missing.result + 2 = omega arith in
    subst (λ (n : ℕ). IsFirstBad c.args.text.now n) number
    (bad_open c.args.text.now c.loop-line.derivation c.loop-line.rest.now c.loop-line.invariant c.in_default-split_line.ensures.none)
