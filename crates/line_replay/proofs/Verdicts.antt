-- What the verdict of a run means for its problem.
use Rattle.std.proofs.Common.{◌≡◌, ◌⊎◌, ℕ, zero, suc, ◌+◌, ◌^◌, ◌<◌, ◌≤◌, Bool, ℤ, List, [], ◌∷◌, ◌++◌, length, map, take, drop, Option, Some, slice_get, refl, sym, ap, ◌∙◌, subst, inl, inr, arith, length-append, codes, decimal}
use Rattle.std.specs.List.{concat}
use Rattle.std.proofs.lemmas.List.{take_all}
use Rattle.std.proofs.lemmas.List.Folds.{concat-append}
use Rattle.dcsp_defs.specs.Words.{In}
use Rattle.dcsp_defs.specs.Csp.{Csp, IsCsp, IsSolution, count, domain}
use Rattle.dcsp_defs.specs.Derivation.{IsDerivation, IsRefutation}
use Rattle.dcsp_rule.specs.Problems.{Contents, csp_of}
use Rattle.abt_defs.specs.Bound.{message_bound}
use Rattle.abt_defs.specs.Network.{values}
use Rattle.abt_defs.specs.Runs.{End, Refuted, Solved, Capped, Spent, Run, whole}
use Rattle.law_runs.specs.Replay.{Verdicts, Repeats}
use Rattle.law_runs.specs.Stops.{Stops, IsOpen}
use Rattle.law_runs.proofs.Whole.{verdicts}
use Rattle.law_runs.proofs.Stopping.{stops}
use Rattle.law_runs.proofs.Again.{replays}
use Rattle.abt_schedule.specs.Answers.{word_at, generator_of}
use Rattle.abt_schedule.specs.Schedules.{choice_line, schedule_lines}
use Rattle.abt_session.specs.Answers.{first_answers}
use Rattle.abt_session.specs.Sessions.{Session, run_of}
use Rattle.dcsp_script.specs.declared.status.Status.{Status}
use Rattle.dcsp_script.specs.declared.status.Status.TheVariants.{Good, No, Unfinished}
use Rattle.ngd_log.specs.Logs.{log_text}
use Rattle.law_runs.proofs.SizeRuns.{sizes_hold}
use Rattle.ngd_check.specs.Logged.{IsSmall}
use Rattle.ngd_check.proofs.Writable.{have_logs}
use Rattle.abt_input.specs.Inputs.{HasChoices, IsTextOf}
use Rattle.line_replay.specs.Endings.{assigned, final_values, end_status}
use Rattle.line_replay.specs.Asked.{Asked, asked_run, asked_steps, most_deliveries, replay, solve, IsReplayed}
use Rattle.line_replay.specs.Settings.{Settings}
use Rattle.line_replay.specs.Headline.{IsSolvedRun, IsRefutedRun, IsUnfinishedRun, IsBoundedRun}
use Rattle.dcsp_problem.specs.WellFormed.{IsProblem}
use Rattle.dcsp_problem.proofs.WellFormed.{is_csp}
use Rattle.dcsp_order.specs.Told.{ordered, steps_told, values_told, IsOrderFor}
use Rattle.dcsp_order.proofs.Telling.{length-told}
use Rattle.line_replay.proofs.Outcomes.{list_answers}
use Rattle.line_replay.proofs.UnderOrder.{ordered_csp, solution_told, refutation_told, final_value}

-- ---- statuses and ends

solved_end : (end : End) → end_status end ≡ Good → end ≡ Solved
solved_end Solved e = refl
solved_end Refuted e = absurd cc
solved_end Capped e = absurd cc
solved_end Spent e = absurd cc

refuted_end : (end : End) → end_status end ≡ No → end ≡ Refuted
refuted_end Solved e = absurd cc
refuted_end Refuted e = refl
refuted_end Capped e = absurd cc
refuted_end Spent e = absurd cc

unfinished_end : (end : End) → end_status end ≡ Unfinished → (end ≡ Capped) ⊎ (end ≡ Spent)
unfinished_end Solved e = absurd cc
unfinished_end Refuted e = absurd cc
unfinished_end Capped e = inl refl
unfinished_end Spent e = inr refl

-- ---- solutions

-- a solution is one by its values at the problem's variables alone
pub same_solution : (p : Csp) → IsCsp p → (f g : ℕ → ℤ) → ((i : ℕ) → i < count p → f i ≡ g i) → IsSolution p g → IsSolution p f
same_solution p ok f g same h = record {
  domains = λ i l. subst (λ v. In v (domain p i)) (sym (same i l)) (h.domains i l);
  constraints = λ c is. (ok.constraints c is).local f g (λ k scope. same k ((ok.constraints c is).inside k scope)) ∙ h.constraints c is;
}

-- ---- the run of any choices

module _ (asked : Asked) (same : asked.session.problem ≡ csp_of (ordered asked.session.order asked.problem)) (ok : IsProblem asked.problem) (good : IsOrderFor asked.session.order asked.problem)
    (status : Status) (status_is : status ≡ end_status (asked_run asked).end) where
  law : Verdicts asked.session.problem asked.session.most (asked_run asked)
  law = verdicts asked.session.problem (subst IsCsp (sym same) (ordered_csp asked.session.order asked.problem ok good)) asked.session.most asked.session.choices

  pub solved : IsSolvedRun asked status
  solved is_good =
      let o = asked.session.order in
      let p = asked.problem in
      let net = (asked_run asked).net in
      let h = law.solved (solved_end (asked_run asked).end (sym status_is ∙ is_good)) in
      let told = solution_told o p ok good (values net) (subst (λ (q : Csp). IsSolution q (values net)) same h.solution) in
      same_solution (csp_of p) (is_csp p ok) (assigned (final_values o p (asked_run asked))) (values_told o (values net)) (λ i l. final_value o p ok good (asked_run asked) i l) told

  pub refuted : IsRefutedRun asked status
  refuted is =
      let steps = (asked_run asked).net.steps in
      refutation_told asked.session.order asked.problem ok good steps (subst (λ (q : Csp). IsRefutation q steps) same (law.refuted (refuted_end (asked_run asked).end (sym status_is ∙ is))))

  pub bounded : IsUnfinishedRun asked status → IsBoundedRun asked status
  bounded unfinished = record {
    bounded = law.bound;
    unfinished = below_bound;
    verdict = λ low u. let d = (unfinished.0 u).1 in let b = below_bound u in omega (arith, low, d, b);
  }
    where
      below_bound : status ≡ Unfinished → (asked_run asked).net.deliveries < message_bound asked.session.problem
      below_bound u = law.unfinished (unfinished_end (asked_run asked).end (sym status_is ∙ u))

-- ---- where the limit lies

used_up : (xs : List ℕ) (k : ℕ) → drop k xs ≡ [] → length xs ≤ k
used_up [] k h = omega arith
used_up (x ∷ xs) zero h = absurd cc
used_up (x ∷ xs) (suc k) h = let l = used_up xs k h in omega (arith, l)

all_dropped : (xs : List ℕ) (k : ℕ) → length xs ≤ k → drop k xs ≡ []
all_dropped [] zero l = refl
all_dropped [] (suc k) l = refl
all_dropped (x ∷ xs) zero l = absurd (omega arith)
all_dropped (x ∷ xs) (suc k) l = all_dropped xs k (omega arith)

-- a seed's choices do not end
endless : (n : ℕ) (f : ℕ → ℕ) → length (first_answers n (λ k. Some (f k))) ≡ n
unfolding first_answers
endless zero f = refl
endless (suc n) f = ap suc (endless n (λ k. f (k + 1)))

pub solve_unfinished : (order : Option (List ℕ)) (p : Contents) (log : List ℕ) (s : Settings) (status : Status) → status ≡ end_status (asked_run (solve order p log s)).end → IsUnfinishedRun (solve order p log s) status
solve_unfinished order p log s status is = (to, from)
  where
    choices : List ℕ
    choices = first_answers s.choices (λ k. Some (word_at (generator_of s.seed) k))

    run : Run
    run = whole (csp_of (ordered order p)) s.choices choices

    h : Stops (csp_of (ordered order p)) s.choices choices run
    h = stops (csp_of (ordered order p)) s.choices choices

    long : length choices ≡ s.choices
    long = endless s.choices (word_at (generator_of s.seed))

    to : status ≡ Unfinished → IsOpen (csp_of (ordered order p)) run.net × (run.net.deliveries ≡ s.choices)
    to u = elim (unfinished_end run.end (sym is ∙ u)) [
      | inl capped ↦ h.ends.capped.0 capped
      | inr spent ↦
          let e = h.ends.spent.0 spent in
          let l = used_up choices run.net.deliveries (sym h.left ∙ e.1.1) in
          let few = e.1.0 in
          absurd (omega (arith, l, long, few))
    ]

    from : IsOpen (csp_of (ordered order p)) run.net × (run.net.deliveries ≡ s.choices) → status ≡ Unfinished
    from o = is ∙ ap end_status (h.ends.capped.1 o)

concat_long : (lines : List (List ℕ)) (f : ℕ → List ℕ) → (cs : List ℕ) → lines ≡ map f cs → ((c : ℕ) → 1 ≤ length (f c)) → length cs ≤ length (concat lines)
concat_long lines f [] e h = omega arith
concat_long lines f (c ∷ cs) e h =
    let l = concat_long (map f cs) f cs refl h in
    let one = h c in
    let s = length-append (f c) (concat (map f cs)) in
    subst (λ z. length (c ∷ cs) ≤ length (concat z)) (sym e) (omega (arith, l, one, s))

-- a schedule has more bytes than choices
pub few_choices : (schedule choices : List ℕ) → HasChoices schedule choices → length choices < most_deliveries
few_choices schedule choices h =
    let lines = map choice_line choices in
    let last : List (List ℕ) = codes "end\n" ∷ [] in
    let l = concat_long lines choice_line choices refl (λ c. let s = length-append (decimal c) (codes "\n") in omega (arith, s)) in
    let whole : concat (schedule_lines choices) ≡ codes "schedule 1\n" ++ (concat lines ++ concat last) = ap (λ t. codes "schedule 1\n" ++ t) (concat-append lines last) in
    let a = length-append (codes "schedule 1\n") (concat lines ++ concat last) in
    let b = length-append (concat lines) (concat last) in
    let short = h.short in
    omega (arith, l, ap length h.reads.same, ap length whole, a, b, short)

pub replay_unfinished : (order : Option (List ℕ)) (p : Contents) (schedule choices log : List ℕ) (trace : Bool) (status : Status) → HasChoices schedule choices → status ≡ end_status (asked_run (replay order p choices log trace)).end → IsUnfinishedRun (replay order p choices log trace) status
replay_unfinished order p schedule choices log trace status has is = (to, from)
  where
    used : List ℕ
    used = first_answers most_deliveries (λ k. slice_get choices k)

    few : length choices < most_deliveries
    few = few_choices schedule choices has

    used_is : used ≡ choices
    used_is = list_answers most_deliveries choices ∙ take_all most_deliveries choices (omega (arith, few))

    run : Run
    run = whole (csp_of (ordered order p)) most_deliveries used

    h : Stops (csp_of (ordered order p)) most_deliveries used run
    h = stops (csp_of (ordered order p)) most_deliveries used

    chosen : run.net.deliveries ≤ length choices
    chosen = subst (λ l. run.net.deliveries ≤ length l) used_is h.chosen

    to : status ≡ Unfinished → IsOpen (csp_of (ordered order p)) run.net × (run.net.deliveries ≡ length choices)
    to u = elim (unfinished_end run.end (sym is ∙ u)) [
      | inl capped ↦ let c = (h.ends.capped.0 capped).1 in absurd (omega (arith, c, chosen, few))
      | inr spent ↦
          let s = h.ends.spent.0 spent in
          let l = used_up used run.net.deliveries (sym h.left ∙ s.1.1) in
          (s.0, omega (arith, subst (λ z. length z ≤ run.net.deliveries) used_is l, chosen))
    ]

    from : IsOpen (csp_of (ordered order p)) run.net × (run.net.deliveries ≡ length choices) → status ≡ Unfinished
    from o =
        let all : length used ≤ run.net.deliveries = subst (λ z. length z ≤ run.net.deliveries) (sym used_is) (omega (arith, o.1)) in
        let below : run.net.deliveries < most_deliveries = omega (arith, o.1, few) in
        is ∙ ap end_status (h.ends.spent.1 (o.0, (below, h.left ∙ all_dropped used run.net.deliveries all)))

-- ---- records

pub records_replay : (p : Contents) (s : Settings) → IsReplayed p s
records_replay p s few order log again told =
    let choices = first_answers s.choices (λ k. Some (word_at (generator_of s.seed) k)) in
    let run = whole (csp_of (ordered order p)) s.choices choices in
    let h = stops (csp_of (ordered order p)) s.choices choices in
    let n = h.numbers in
    let m = h.at_most in
    let all : length run.numbers ≤ most_deliveries = omega (arith, n, m, few) in
    let same : first_answers most_deliveries (λ k. slice_get run.numbers k) ≡ run.numbers = list_answers most_deliveries run.numbers ∙ take_all most_deliveries run.numbers all in
    subst (λ cs. Repeats run (whole (csp_of (ordered order p)) most_deliveries cs)) (sym same) (replays (csp_of (ordered order p)) s.choices most_deliveries choices few)

-- ---- logs

-- the log of a run is a text of the steps that it tells, where they are a derivation of a problem that logs can name
pub run_log : (s : Session) (p : Csp) → s.most ≤ 2 ^ 40 → IsCsp s.problem → IsSmall p → IsDerivation p (steps_told s.order (run_of s).net.steps) → IsTextOf (log_text (steps_told s.order (run_of s).net.steps)) (steps_told s.order (run_of s).net.steps)
run_log s p most ok small right =
    let h = stops s.problem s.most s.choices in
    let made = h.at_most in
    let size = (sizes_hold s.problem ok (take (run_of s).net.deliveries s.choices)).steps in
    let few : length (run_of s).net.steps ≤ (run_of s).net.deliveries + 1 = subst (λ n. length n.steps ≤ n.deliveries + 1) (sym h.net) size in
    let as_many = length-told s.order (run_of s).net.steps in
    let log = have_logs p small (steps_told s.order (run_of s).net.steps) right (omega arith) in
    record { short = log.short; reads = log.log }

-- so the log of a refuted run is
pub refuted_log : (asked : Asked) → asked.session.problem ≡ csp_of (ordered asked.session.order asked.problem) → asked.session.most ≤ 2 ^ 40 → IsProblem asked.problem → IsOrderFor asked.session.order asked.problem → IsSmall (csp_of asked.problem)
    → IsRefutation (csp_of asked.problem) (asked_steps asked) → IsTextOf (log_text (asked_steps asked)) (asked_steps asked)
refuted_log asked same most ok good small refutation = run_log asked.session (csp_of asked.problem) most (subst IsCsp (sym same) (ordered_csp asked.session.order asked.problem ok good)) small refutation.right
