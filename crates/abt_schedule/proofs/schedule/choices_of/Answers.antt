use Rattle.std.proofs.Common.{◌≡◌, ◌+◌, ℕ, List, length, sym, subst, arith}
use Rattle.ngd_log.specs.Lines.{lines}
use Rattle.abt_schedule.specs.Schedules.{IsScheduleOf, IsFirstBad}
use Rattle.abt_schedule.proofs.FirstBad.{HasFront}
use Rattle.abt_schedule.proofs.Answered.{bad_start, front_start, front_next, whole_end, bad_more, bad_next}
use Rattle.abt_schedule.proofs.schedule.choices_of.Goals as goal

pub returns-in_default-clause-cause : goal.returns-in_default-clause-cause
returns-in_default-clause-cause c = bad_start c.args.text.now c.in_default.ensures.reads

pub loop-choice-init : goal.loop-choice-init
loop-choice-init c = subst (λ (l : List ℕ). HasFront c.args.text.now l (lines c.in-Some.first.now)) (sym c.in-Ok.ensures.items) (front_start c.args.text.now c.in-Some.first.now c.in-Some.ensures.reads)

pub loop-choice-preserved : goal.loop-choice-preserved
loop-choice-preserved c =
    subst (λ (l : List ℕ). HasFront c.args.text.now l (lines c.in-Some-choice_at.others.now)) (sym c.in_default-push.ensures.items)
    (front_next c.args.text.now c.loop-choice.choices.items c.loop-choice.rest.now c.in-Some-choice_at.choice c.in-Some-choice_at.others.now c.loop-choice.invariant c.in-Some-choice_at.ensures.some)

pub returns-in-Some-empty-clause-schedule : goal.returns-in-Some-empty-clause-schedule
returns-in-Some-empty-clause-schedule c =
    subst (IsScheduleOf c.args.text.now) (sym c.from_vec.ensures)
    (whole_end c.args.text.now c.loop-choice.choices.items c.loop-choice.rest.now c.in-Some-empty.field-0.now c.loop-choice.invariant c.in-Some-empty.ensures.reads c.in-Some-empty.len_below)

pub returns-in-Some-after-clause-cause : goal.returns-in-Some-after-clause-cause
returns-in-Some-after-clause-cause c =
    let number : length c.loop-choice.choices.items + 3 ≡ c.len.result + 2 + 1 = omega arith in
    subst (λ (n : ℕ). IsFirstBad c.args.text.now n) number
    (bad_more c.args.text.now c.loop-choice.choices.items c.loop-choice.rest.now c.in-Some-after.field-0.now c.loop-choice.invariant c.in-Some-after.ensures.reads (omega (arith, c.in-Some-after.len_at_least)))

pub returns-in-None-clause-cause : goal.returns-in-None-clause-cause
returns-in-None-clause-cause c =
    let number : length c.loop-choice.choices.items + 2 ≡ c.len.result + 2 = omega arith in
    subst (λ (n : ℕ). IsFirstBad c.args.text.now n) number (bad_next c.args.text.now c.loop-choice.choices.items c.loop-choice.rest.now c.loop-choice.invariant c.in_default-choice_at.ensures.none c.in-None.ensures.reads)
