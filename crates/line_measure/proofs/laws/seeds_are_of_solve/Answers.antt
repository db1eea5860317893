use Rattle.std.proofs.Common.{ℕ, Some, ap}
use Rattle.dcsp_rule.specs.Problems.{csp_of}
use Rattle.dcsp_order.specs.Told.{ordered}
use Rattle.abt_defs.specs.Runs.{whole}
use Rattle.abt_schedule.specs.Answers.{generator_of, word_at}
use Rattle.abt_session.specs.Answers.{first_answers}
use Rattle.line_measure.proofs.laws.seeds_are_of_solve.Goals as goal

pub returns : goal.returns
returns c = λ order p log s is. ap (λ (n : ℕ). whole (csp_of (ordered order p)) n (first_answers n (λ k. Some (word_at (generator_of s.seed) k)))) is
