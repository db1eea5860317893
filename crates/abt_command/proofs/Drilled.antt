-- The runs of a drill end as their problems ask.
use Rattle.std.proofs.Common.{◌≡◌, ℕ, ◌^◌, ◌<◌, List, ◌++◌, codes, ap, ◌∙◌, subst, arith, append-nil}
use Rattle.dcsp_outside.specs.Outside.{Stream}
use Rattle.dcsp_outside.proofs.Changes.{Told-weaker}
use Rattle.dcsp_script.specs.Scripts.{World, put_by, PutAfter}
use Rattle.dcsp_script.specs.Statuses.{IsFinal}
use Rattle.dcsp_script.specs.Runs.{Ran}
use Rattle.dcsp_script.specs.declared.status.Status.{Status}
use Rattle.dcsp_script.proofs.Following.{ran_answers}
use Rattle.dcsp_defs.specs.Csp.{IsSolution}
use Rattle.dcsp_rule.specs.Problems.{Contents, csp_of}
use Rattle.ngd_log.specs.Logs.{log_text}
use Rattle.ngd_check.specs.declared.Finding.TheVariants.{Verified}
use Rattle.abt_defs.specs.Bound.{message_bound}
use Rattle.abt_schedule.specs.Answers.{word_at, generator_of}
use Rattle.dcsp_gen.specs.Problems.{sparse_text, queens_text}
use Rattle.law_subjects.specs.Lines.{queens}
use Rattle.law_subjects.specs.Problems.{problem_of}
use Rattle.law_subjects.proofs.GeneratedSolutions.{sparse_graphs_are_coloured, six_queens_are_placed}
use Rattle.line_check.proofs.Lawful.{log_exact}
use Rattle.line_drill.specs.Drills.{Drill, run_from, drill_text}
use Rattle.line_drill.proofs.Generated.{its_queens, its_sparse}
use Rattle.line_drill.proofs.Ends.{generated, solved_or_stopped, not_stopped, pigeons_refuted, pigeons_verified}
use Rattle.abt_command.specs.Drilled.{HasTrueEnds, IsDrilled}
use Rattle.abt_command.specs.Lines.{Line, IsLine, promise_of}
use Rattle.abt_command.specs.Lines as lines
use Rattle.abt_command.proofs.Lines.{lawful, one_line}

-- ---- ends

queens_bound : message_bound (csp_of (problem_of (codes "q") (queens 6))) < 2 ^ 40
queens_bound = omega arith

true_ends : (seed : ℕ) (drill : Drill seed) → HasTrueEnds seed drill
true_ends seed drill =
    let words = word_at (generator_of seed) in
    let s = generated (sparse_text 500 words) drill.sparse _ drill.sparse_is (its_sparse words) in
    let q = generated (queens_text 6) drill.queens _ drill.queens_is its_queens in
    let coloured = sparse_graphs_are_coloured 500 words (omega arith) (omega arith) in
    record {
      sparse = solved_or_stopped drill.sparse s.limits seed coloured.0 (subst (λ (p : Contents). IsSolution (csp_of p) coloured.0) s.same coloured.1);
      queens = not_stopped drill.queens q.limits seed (subst (λ (p : Contents). message_bound (csp_of p) < 2 ^ 40) q.same queens_bound) (solved_or_stopped drill.queens q.limits seed six_queens_are_placed.0 (subst (λ (p : Contents). IsSolution (csp_of p) six_queens_are_placed.0) q.same six_queens_are_placed.1));
      pigeons = pigeons_refuted drill.pigeons drill.pigeons_is seed;
      verified = (log_exact drill.pigeons).one (log_text (run_from drill.pigeons seed).net.steps) drill.finding Verified drill.found (pigeons_verified drill.pigeons drill.pigeons_is seed);
    }

-- ---- the line

module _ (words : List (List ℕ)) (line : Line) (is : IsLine words line) (a b : World) (err now : Stream) (status : Status) (line_ran : Ran (promise_of line) a b err now status) where
  pub is_drilled : (seed : ℕ) → IsLine words (lines.Drill seed) → IsFinal status → IsDrilled seed a b status
  is_drilled seed h f =
      let ran = subst (λ x. Ran (promise_of x) a b err now status) (one_line words line (lines.Drill seed) is h) line_ran in
      let k = ran_answers (promise_of (lines.Drill seed)) (lawful (lines.Drill seed)) a b err now status ran f in
      let s = k.reports in
      let q = s.2 in
      let g = q.2 in
      let v = g.2 in
      let drill : Drill seed = record { sparse = s.0; queens = q.0; pigeons = g.0; finding = v.0; sparse_is = s.1; queens_is = q.1; pigeons_is = g.1; found = v.1 } in
      let report = v.2 in
      record {
        drill = drill;
        ends = true_ends seed drill;
        status_is = k.status_is ∙ ap (λ r. r.status) report;
        out = Told-weaker (PutAfter k.report.script) (λ before after. after ≡ before ++ drill_text seed drill) (λ before after e. e ∙ ap (λ r. before ++ put_by r.script) report ∙ ap (λ t. before ++ t) (append-nil (drill_text seed drill))) a.out.written b.out.written k.did.after.out;
      }
