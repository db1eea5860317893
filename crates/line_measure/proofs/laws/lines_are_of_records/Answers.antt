use Rattle.std.proofs.Common.{ℕ, Some, ap, sym, ◌∙◌}
use Rattle.dcsp_rule.specs.Problems.{csp_of}
use Rattle.dcsp_order.specs.Told.{ordered}
use Rattle.abt_defs.specs.Runs.{Run, whole}
use Rattle.abt_schedule.specs.Answers.{generator_of, word_at}
use Rattle.abt_session.specs.Answers.{first_answers}
use Rattle.line_measure.specs.Numbers.{listed, numbers_of, seeded}
use Rattle.line_measure.proofs.NumberLaws.{records_alike}
use Rattle.line_measure.proofs.laws.lines_are_of_records.Goals as goal

pub returns : goal.returns
returns c = λ order p log s is.
    let q = csp_of (ordered order p) in
    let run = ap (λ (n : ℕ). whole q n (first_answers n (λ k. Some (word_at (generator_of s.seed) k)))) is in
    sym (records_alike q (seeded s.seed)) ∙ ap (λ (r : Run). numbers_of q (listed r.numbers)) (sym run)
