use Rattle.std.proofs.Common.{◌≡◌, ◌++◌, ◌∙◌, ap, arith, take, List, ℕ}
use Rattle.std.specs.List.{concat}
use Rattle.std.proofs.lemmas.List.{take_all}
use Rattle.abt_schedule.proofs.ScheduleLines.{front_lines}
use Rattle.abt_schedule.proofs.Answered.{kept_through, lines_more, lines_end}
use Rattle.abt_schedule.proofs.schedule.push_lines.Goals as goal

pub loop-choice-preserved : goal.loop-choice-preserved
loop-choice-preserved c = record {
  text = c.in_ok-push_choice.ensures.ok ∙ lines_more c.args.into.now.items c.loop-choice.into.items c.args.choices.now c.loop-choice.choice-index c.loop-choice-test.true c.loop-choice.invariant.text;
  kept = kept_through c.args.into.now.items c.loop-choice.into.items c.push_choice.new.into.items c.loop-choice.invariant.kept c.in_ok-push_choice.ensures.kept;
}

pub returns-in_err-push_choice-clause-kept : goal.returns-in_err-push_choice-clause-kept
returns-in_err-push_choice-clause-kept c = kept_through c.args.into.now.items c.loop-choice.into.items c.push_choice.new.into.items c.loop-choice.invariant.kept c.push_choice.ensures.kept

pub returns-clause-ok : goal.returns-clause-ok
returns-clause-ok c =
    let all : take c.loop-choice.choice-index c.args.choices.now ≡ c.args.choices.now = take_all c.loop-choice.choice-index c.args.choices.now (omega (arith, c.loop-choice-test.false)) in
    c.in_ok-extend_from_slice-2.ensures.items
    ∙ lines_end c.args.into.now.items c.loop-choice.into.items c.args.choices.now (c.loop-choice.invariant.text ∙ ap (λ (cs : List ℕ). c.args.into.now.items ++ concat (front_lines cs)) all)
