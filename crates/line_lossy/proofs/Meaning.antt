-- What a run over the medium means.
use Rattle.std.proofs.Common.{◌≡◌, ◌↔◌, ℕ, ◌+◌, Bool, true, false, cond, ◌||◌, List, [], Option, Some, None, length, slice_get, refl, sym, ap, ◌∙◌, subst, arith}
use Rattle.std.proofs.lemmas.List.{take_all}
use Rattle.dcsp_defs.specs.Csp.{Csp, HasNoSolution, IsCsp, IsSolution}
use Rattle.dcsp_rule.specs.Problems.{Contents, csp_of}
use Rattle.dcsp_problem.specs.WellFormed.{IsProblem}
use Rattle.dcsp_problem.proofs.WellFormed.{is_csp}
use Rattle.dcsp_order.specs.Told.{ordered, values_told, IsOrderFor}
use Rattle.dcsp_order.specs.Under.{by_place}
use Rattle.dcsp_order.proofs.Solutions.{solutions_go}
use Rattle.dcsp_problem.proofs.OwnerLists.{length-map_below}
use Rattle.abt_defs.specs.Network.{values}
use Rattle.abt_defs.specs.Runs.{Run, Refuted, Solved, Capped, whole}
use Rattle.law_runs.specs.Worlds.{World}
use Rattle.law_runs.specs.LossyEnds.{is_quiet, has_verdict}
use Rattle.law_runs.proofs.WorldRuns.{quiet_is_solved, steps_are_right, handed_up_bounded}
use Rattle.law_runs.proofs.WholeWorlds.{is_whole}
use Rattle.law_runs.specs.LossyRuns.{IsWholeRun}
use Rattle.abt_schedule.specs.Answers.{word_at, generator_of}
use Rattle.abt_schedule.specs.Schedules.{schedule_text, AreChoices, IsScheduleOf}
use Rattle.abt_schedule.proofs.ScheduleLaws.{schedule_or_bad_line}
use Rattle.abt_session.specs.Answers.{first_answers}
use Rattle.dcsp_script.specs.declared.status.Status.{Status}
use Rattle.dcsp_script.specs.declared.status.Status.TheVariants.{Good, No, Unfinished}
use Rattle.line_replay.specs.Asked.{most_deliveries}
use Rattle.line_replay.specs.Endings.{assigned, end_status}
use Rattle.line_replay.proofs.Outcomes.{list_answers}
use Rattle.line_replay.proofs.Recording.{numbers_fit}
use Rattle.line_replay.proofs.UnderOrder.{final_value, ordered_count, ordered_csp, refutation_told, solution_told}
use Rattle.line_replay.proofs.Verdicts.{few_choices, same_solution}
use Rattle.line_lossy.specs.Asked.{Asked, lossy, most_calm, seeded_words, run_numbers, run_problem, run_words, run_world, end_of, world_values}
use Rattle.line_lossy.specs.Meaning.{IsRefutedRun, IsSolvedRun, IsUnfinishedRun, IsBoundedRun, IsRecorded, IsLossyRun, RunsAreRight}
use Rattle.line_lossy.proofs.Counting.{all_made, soon, past_budget}

-- ---- statuses

-- the status, by whether the world is refuted and whether it is quiet
abbrev status_by : Bool → Bool → Status
status_by a b = end_status (cond a Refuted (cond b Solved Capped))

is_no : (a b : Bool) → (status_by a b ≡ No) ↔ (a ≡ true)
is_no true b = (λ h. refl, λ h. refl)
is_no false true = (λ h. absurd cc, λ h. absurd cc)
is_no false false = (λ h. absurd cc, λ h. absurd cc)

is_good : (a b : Bool) → (status_by a b ≡ Good) ↔ ((b ≡ true) × (a ≡ false))
is_good true b = (λ h. absurd cc, λ h. absurd (let z = h.1 in cc))
is_good false true = (λ h. (refl, refl), λ h. refl)
is_good false false = (λ h. absurd cc, λ h. absurd (let z = h.0 in cc))

is_unfinished : (a b : Bool) → (status_by a b ≡ Unfinished) ↔ ((a || b) ≡ false)
is_unfinished true b = (λ h. absurd cc, λ h. absurd cc)
is_unfinished false true = (λ h. absurd cc, λ h. absurd cc)
is_unfinished false false = (λ h. refl, λ h. refl)

-- ---- solutions under an order

-- where the problem that is run has none, the model has none
no_solution_told : (order : Option (List ℕ)) (p : Contents) → IsProblem p → IsOrderFor order p → HasNoSolution (csp_of (ordered order p)) → HasNoSolution (csp_of p)
no_solution_told None p ok good none = none
no_solution_told (Some order) p ok good none = λ values h. none (by_place order values) (solutions_go p ok order good values h)

-- ---- one run

module _ (asked : Asked) (sound : IsProblem asked.problem) (good_order : IsOrderFor asked.order asked.problem) (status : Status) (status_is : status ≡ end_status (end_of (run_problem asked) (run_world asked))) where
  abbrev run : Csp
  run = run_problem asked

  ok : IsCsp run
  ok = ordered_csp asked.order asked.problem sound good_order

  abbrev w : World
  w = run_world asked

  abbrev given : List ℕ
  given = seeded_words asked.seed asked.events

  given_long : length given ≡ asked.events
  given_long = length-map_below (word_at (generator_of asked.seed)) asked.events

  abbrev tells_no : (status_by w.network.refuted (is_quiet (run_problem asked) w) ≡ No) ↔ (w.network.refuted ≡ true)
  tells_no = is_no w.network.refuted (is_quiet (run_problem asked) w)

  abbrev tells_good : (status_by w.network.refuted (is_quiet (run_problem asked) w) ≡ Good) ↔ ((is_quiet (run_problem asked) w ≡ true) × (w.network.refuted ≡ false))
  tells_good = is_good w.network.refuted (is_quiet (run_problem asked) w)

  abbrev tells_unfinished : (status_by w.network.refuted (is_quiet (run_problem asked) w) ≡ Unfinished) ↔ (has_verdict (run_problem asked) w ≡ false)
  tells_unfinished = is_unfinished w.network.refuted (is_quiet (run_problem asked) w)

  refuted : IsRefutedRun asked status
  refuted =
      let steps = steps_are_right (run_problem asked) ok (run_words asked) in
      let told = λ (h : status ≡ No). refutation_told asked.order asked.problem sound good_order w.network.steps (steps.refuted (tells_no.0 (sym status_is ∙ h))) in
      record {
        exactly = (λ h. tells_no.0 (sym status_is ∙ h), λ h. status_is ∙ tells_no.1 h);
        refutation = told;
        no_solution = λ h. no_solution_told asked.order asked.problem sound good_order (steps.no_solution (tells_no.0 (sym status_is ∙ h)));
      }

  solution : status ≡ Good → IsSolution (csp_of asked.problem) (assigned (world_values asked.order asked.problem w))
  solution h =
      let good = tells_good.0 (sym status_is ∙ h) in
      let solved = quiet_is_solved (run_problem asked) ok (run_words asked) good.1 good.0 in
      let o = asked.order in
      let p = asked.problem in
      let its_run : Run = record { end = Solved; net = w.network; left = []; numbers = []; trace = [] } in
      same_solution (csp_of p) (is_csp p sound) (assigned (world_values o p w)) (values_told o (values w.network)) (λ i l. final_value o p sound good_order its_run i l)
      (solution_told o p sound good_order (values w.network) solved.solution)

  solved : IsSolvedRun asked status
  solved = record { exactly = (λ h. tells_good.0 (sym status_is ∙ h), λ h. status_is ∙ tells_good.1 h); solution = solution }

  unfinished : IsUnfinishedRun asked status
  unfinished = record {
    exactly = (λ h. tells_unfinished.0 (sym status_is ∙ h), λ h. status_is ∙ tells_unfinished.1 h);
    all_made = λ h. let all = all_made (run_problem asked) ok given most_calm (tells_unfinished.0 (sym status_is ∙ h)) in all ∙ ap (λ k. k + most_calm) given_long;
    budget = λ small h. let past = past_budget (run_problem asked) ok given most_calm (tells_unfinished.0 (sym status_is ∙ h)) in let long = given_long in absurd (omega (arith, small, past, long));
  }

  bounded : IsBoundedRun asked
  bounded =
      let counts = handed_up_bounded (run_problem asked) ok (run_words asked) in
      record {
        deliveries = counts.bound;
        numbered = counts.numbered;
        events = let l = soon (run_problem asked) ok given most_calm in let long = given_long in omega (arith, l, long);
      }

  numbers_are_choices : AreChoices (run_numbers asked)
  numbers_are_choices =
      let variables = sound.few_variables in
      let as_many = ordered_count asked.order asked.problem sound good_order in
      let again = is_whole run (run_words asked) (length (run_numbers asked)) (omega arith) in
      subst AreChoices again.numbers (numbers_fit run (length (run_numbers asked)) (run_numbers asked) (omega (arith, variables, as_many)))

  recorded : IsRecorded asked (schedule_text (run_numbers asked))
  recorded =
      let numbers = run_numbers asked in
      let text = schedule_text numbers in
      let schedule : IsScheduleOf text numbers = record { in_range = numbers_are_choices; same = refl } in
      record {
        schedule = schedule;
        read = λ short. record { short = short; reads = schedule };
        alone = λ choices is. (schedule_or_bad_line text).one_schedule choices numbers is.reads schedule;
        replayed = λ short log trace.
            let few = few_choices text numbers (record { short = short; reads = schedule }) in
            let same : first_answers most_deliveries (λ k. slice_get numbers k) ≡ numbers = list_answers most_deliveries numbers ∙ take_all most_deliveries numbers (omega (arith, few)) in
            subst (λ cs. IsWholeRun run most_deliveries numbers w (whole run most_deliveries cs)) (sym same) (is_whole run (run_words asked) most_deliveries (omega (arith, few)));
      }

  pub is_right : IsLossyRun asked status
  is_right = record {
    status_is = status_is;
    refuted = refuted;
    solved = solved;
    unfinished = unfinished;
    bounded = bounded;
    reliable = is_whole (run_problem asked) (run_words asked);
    recorded = recorded;
  }

pub runs_are_right : RunsAreRight
runs_are_right p order events seed log kept sound good status is = is_right (lossy order p events seed log kept) sound good status is
