-- A drill has a report: its models have their problems, and the log of its last run is verified.
use Rattle.std.proofs.Common.{ℕ, [], codes}
use Rattle.ngd_check.specs.declared.Finding.TheVariants.{Verified}
use Rattle.abt_schedule.specs.Answers.{word_at, generator_of}
use Rattle.abt_input.specs.Plans.{IsAnswered}
use Rattle.law_subjects.specs.Lines.{queens, sparse, pigeons}
use Rattle.law_subjects.specs.Problems.{problem_of}
use Rattle.line_drill.specs.DrillPromise.{drill_plan, drill_promise}
use Rattle.line_drill.proofs.Generated.{its_sparse, its_queens, its_pigeons}
use Rattle.line_drill.proofs.Ends.{pigeons_verified}
use Rattle.law_inputs.proofs.Plans.{has_answer}

pub drill_answered : (seed : ℕ) → IsAnswered (drill_promise seed)
drill_answered seed =
    let words = word_at (generator_of seed) in
    let five = problem_of (codes "p") (pigeons 5) in
    has_answer [] [] (drill_plan seed)
    (problem_of (codes "c") (sparse 500 words), its_sparse words, (problem_of (codes "q") (queens 6), its_queens, (five, its_pigeons, (Verified, pigeons_verified five its_pigeons seed, tt))))
