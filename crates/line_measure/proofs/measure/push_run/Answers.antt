use Rattle.std.proofs.Common.{◌≡◌, ◌∙◌, ◌++◌, true, ap, option_copied}
use Rattle.dcsp_rule.specs.Problems.{csp_of}
use Rattle.abt_defs.specs.Events.{acts}
use Rattle.abt_measure.specs.Whole.{IsMeasuredRun}
use Rattle.line_replay.specs.Asked.{most_deliveries}
use Rattle.line_measure.specs.declared.numbers.Numbers.{Numbers}
use Rattle.line_measure.specs.Numbers.{listed, numbers_of, run_under, used_under}
use Rattle.line_measure.specs.Texts.{each_text, head_text, measures_text}
use Rattle.line_measure.proofs.Growing.{piece_more}
use Rattle.line_measure.proofs.measure.push_run.Goals as goal

pub returns-clause-text : goal.returns-clause-text
unfolding measures_text
returns-clause-text c =
    let p = c.args.problem.now in
    let q = csp_of p in
    let old = c.args.into.now.items in
    let choices = listed c.args.choices.now in
    let done = acts q (used_under q choices) in
    let h : IsMeasuredRun p most_deliveries choices true _ = c.in_ok-run.ensures in
    let numbers : _ ≡ numbers_of q choices = c.in_ok-numbers.ensures p choices true h in
    let each = c.in_ok-push_each.ensures done (run_under q choices).net h.after.measured.counted.rows (h.after.learned h.listens_is) h.stands in
    piece_more old (head_text (numbers_of q choices)) (each_text (option_copied c.args.order) q done (run_under q choices).net) _ _ (c.in_ok-push_head.ensures ∙ ap (λ (n : Numbers). old ++ head_text n) numbers) each

pub returns-clause-end : goal.returns-clause-end
returns-clause-end c =
    let p = c.args.problem.now in
    let choices = listed c.args.choices.now in
    let h : IsMeasuredRun p most_deliveries choices true _ = c.in_ok-run.ensures in
    ap (λ (n : Numbers). n.end) (c.in_ok-numbers.ensures p choices true h)
