-- How the runs of a drill end.
use Rattle.std.proofs.Common.{◌≡◌, ◌⊎◌, ℕ, ◌^◌, ◌<◌, false, List, codes, None, inl, inr, refl, ap, ◌∙◌, subst, arith}
use Rattle.dcsp_script.specs.declared.status.Status.TheVariants.{Unfinished}
use Rattle.dcsp_defs.specs.Csp.{Assignment, HasNoSolution, IsSolution}
use Rattle.dcsp_rule.specs.Problems.{Contents, csp_of}
use Rattle.dcsp_problem.specs.WellFormed.{IsProblem}
use Rattle.ngd_log.specs.Logs.{log_text}
use Rattle.ngd_check.specs.declared.Finding.TheVariants.{Verified}
use Rattle.abt_defs.specs.Bound.{message_bound}
use Rattle.abt_defs.specs.Runs.{End, Refuted, Solved, Capped, Spent}
use Rattle.law_runs.specs.Replay.{Verdicts}
use Rattle.law_runs.proofs.Whole.{verdicts}
use Rattle.dcsp_problem.proofs.WellFormed.{is_csp}
use Rattle.dcsp_gen.specs.Problems.{pigeons_text}
use Rattle.abt_input.specs.Inputs.{IsModelOf}
use Rattle.abt_input.proofs.Once.{one_problem}
use Rattle.law_subjects.specs.Lines.{pigeons}
use Rattle.law_subjects.specs.Problems.{problem_of}
use Rattle.law_subjects.proofs.Accepting.{accepted_are_problems}
use Rattle.law_subjects.proofs.GeneratedSolutions.{pigeons_do_not_fit}
use Rattle.line_check.specs.Checks.{IsFoundFor}
use Rattle.line_check.proofs.Verifying.{refutation_found}
use Rattle.line_replay.specs.Asked.{seed_alone, seeded_session}
use Rattle.line_replay.specs.Endings.{end_status}
use Rattle.line_replay.proofs.Verdicts.{run_log, solve_unfinished}
use Rattle.line_drill.specs.Drills.{log_name, run_from}
use Rattle.line_drill.proofs.Generated.{its_pigeons}

-- the accepted text's problem is that of its lines, and within the limits
pub record IsGenerated (text : List ℕ) (p lined : Contents) : Type 0 where
  pub same : lined ≡ p
  pub limits : IsProblem p

pub generated : (text : List ℕ) (p lined : Contents) → IsModelOf text p → IsModelOf text lined → IsGenerated text p lined
generated text p lined is made = record { same = one_problem text lined p made is; limits = (accepted_are_problems text).within_limits p is.short is.reads }

-- ---- ends

module _ (p : Contents) (ok : IsProblem p) (seed : ℕ) where
  pub law : Verdicts (csp_of p) (2 ^ 40) (run_from p seed)
  law = verdicts (csp_of p) (is_csp p ok) (2 ^ 40) (seeded_session None p seed log_name false).choices

  -- an end that is open comes after all deliveries
  all_made : (end : End) → (run_from p seed).end ≡ end → end_status end ≡ Unfinished → (run_from p seed).net.deliveries ≡ 2 ^ 40
  all_made end e u = ((solve_unfinished None p log_name (seed_alone seed) (end_status (run_from p seed).end) refl).0 (ap end_status e ∙ u)).1

  -- where there is a solution, the run is solved or stopped
  pub solved_or_stopped : (values : Assignment) → IsSolution (csp_of p) values → ((run_from p seed).end ≡ Solved) ⊎ ((run_from p seed).net.deliveries ≡ 2 ^ 40)
  solved_or_stopped values solution = by (run_from p seed).end refl
    where
      by : (end : End) → (run_from p seed).end ≡ end → (end ≡ Solved) ⊎ ((run_from p seed).net.deliveries ≡ 2 ^ 40)
      by Solved e = inl refl
      by Refuted e = absurd (law.no_solution e values solution)
      by Capped e = inr (all_made Capped e refl)
      by Spent e = inr (all_made Spent e refl)

  -- where there is none, it is refuted or stopped
  refuted_or_stopped : HasNoSolution (csp_of p) → ((run_from p seed).end ≡ Refuted) ⊎ ((run_from p seed).net.deliveries ≡ 2 ^ 40)
  refuted_or_stopped none = by (run_from p seed).end refl
    where
      by : (end : End) → (run_from p seed).end ≡ end → (end ≡ Refuted) ⊎ ((run_from p seed).net.deliveries ≡ 2 ^ 40)
      by Solved e = absurd (let solved = law.solved e in none _ solved.solution)
      by Refuted e = inl refl
      by Capped e = inr (all_made Capped e refl)
      by Spent e = inr (all_made Spent e refl)

  -- it is not stopped where the bound is low
  pub not_stopped : {P : Type 0} → message_bound (csp_of p) < 2 ^ 40 → P ⊎ ((run_from p seed).net.deliveries ≡ 2 ^ 40) → P
  not_stopped low (inl done) = done
  not_stopped low (inr stopped) = let most = law.bound in absurd (omega (arith, low, stopped, most))

pigeons_bound : message_bound (csp_of (problem_of (codes "p") (pigeons 5))) < 2 ^ 40
pigeons_bound = omega arith

-- ---- five pigeons

module _ (p : Contents) (is : IsModelOf (pigeons_text 5) p) (seed : ℕ) where
  its : IsGenerated (pigeons_text 5) p (problem_of (codes "p") (pigeons 5))
  its = generated (pigeons_text 5) p _ is its_pigeons

  pub pigeons_refuted : (run_from p seed).end ≡ Refuted
  pigeons_refuted = not_stopped p its.limits seed (subst (λ (q : Contents). message_bound (csp_of q) < 2 ^ 40) its.same pigeons_bound) (refuted_or_stopped p its.limits seed (subst (λ (q : Contents). HasNoSolution (csp_of q)) its.same (pigeons_do_not_fit 5 (omega arith) (omega arith))))

  -- so the log of their run is verified
  pub pigeons_verified : IsFoundFor p (log_text (run_from p seed).net.steps) Verified
  pigeons_verified =
      let refutes = (law p its.limits seed).refuted pigeons_refuted in
      let small = (accepted_are_problems (pigeons_text 5)).small p is.short is.reads in
      let text = run_log (seeded_session None p seed log_name false) (csp_of p) (omega arith) (is_csp p its.limits) small refutes.right in
      refutation_found (log_text (run_from p seed).net.steps) p (run_from p seed).net.steps text refutes
