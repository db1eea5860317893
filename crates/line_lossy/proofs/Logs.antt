-- The log of a refuted run is a text of its steps.
use Rattle.std.proofs.Common.{ℕ, zero, suc, ◌+◌, ◌^◌, ◌≤◌, true, false, cond, List, [], ◌∷◌, ◌++◌, length, length-append, Option, Some, None, ap, arith}
use Rattle.std.specs.Prelude.{option_to_list}
use Rattle.dcsp_defs.specs.Csp.{Csp, IsCsp}
use Rattle.dcsp_defs.specs.Derivation.{IsRefutation}
use Rattle.dcsp_rule.specs.Problems.{csp_of}
use Rattle.dcsp_problem.specs.WellFormed.{IsProblem}
use Rattle.dcsp_problem.proofs.OwnerLists.{length-map_below}
use Rattle.dcsp_order.specs.Told.{IsOrderFor}
use Rattle.dcsp_order.proofs.Telling.{length-told}
use Rattle.law_runs.specs.Worlds.{World, begin, event, after}
use Rattle.law_runs.specs.Deliveries.{delivered, numbers}
use Rattle.law_runs.specs.LossyEnds.{has_verdict, used, calm_word, calm_words}
use Rattle.law_runs.proofs.SizeRuns.{sizes_hold}
use Rattle.law_runs.proofs.WorldRuns.{handed_up_bounded, is_run}
use Rattle.ngd_log.specs.Logs.{log_text}
use Rattle.ngd_check.specs.Logged.{IsSmall}
use Rattle.ngd_check.proofs.Writable.{have_logs}
use Rattle.abt_schedule.specs.Answers.{word_at, generator_of}
use Rattle.abt_input.specs.Inputs.{IsTextOf}
use Rattle.line_replay.proofs.UnderOrder.{ordered_csp}
use Rattle.line_lossy.specs.Asked.{Asked, most_calm, seeded_words, words_of, run_numbers, run_problem, run_steps, run_words, run_world}
use Rattle.line_lossy.proofs.Counting.{used_short}

-- ---- how much is handed up

at_most_one : (o : Option ℕ) → length (option_to_list o) ≤ 1
at_most_one None = omega arith
at_most_one (Some n) = omega arith

-- an event hands up one message or none
numbers_short : (p : Csp) (words : List ℕ) (w : World) → length (numbers p words w) ≤ length words
numbers_short p [] w = omega arith
numbers_short p (x ∷ xs) w =
    let later = numbers_short p xs (event p x w) in
    let one = at_most_one (delivered p x w) in
    let both = length-append (option_to_list (delivered p x w)) (numbers p xs (event p x w)) in
    elim w.network.refuted as (λ b. length (cond b [] (option_to_list (delivered p x w) ++ numbers p xs (event p x w))) ≤ suc (length xs)) [ true ↦ omega arith | false ↦ omega (arith, later, one, both) ]

calm_short : (p : Csp) (n : ℕ) (w : World) → length (calm_words p n w) ≤ n
calm_short p zero w = omega arith
calm_short p (suc n) w =
    let later = calm_short p n (event p (calm_word w) w) in
    elim (has_verdict p w) as (λ b. length (cond b [] (calm_word w ∷ calm_words p n (event p (calm_word w) w))) ≤ suc n) [ true ↦ omega arith | false ↦ omega (arith, later) ]

words_few : (p : Csp) (given : List ℕ) (n : ℕ) → length (words_of p given n) ≤ length given + n
unfolding words_of
words_few p given n =
    let first = used p given (begin p) in
    let calm_ones = calm_words p n (after p first (begin p)) in
    let both = length-append first calm_ones in
    let given_ones = used_short p given (begin p) in
    let more = calm_short p n (after p first (begin p)) in
    omega (arith, both, given_ones, more)

-- ---- the log

module _ (asked : Asked) (sound : IsProblem asked.problem) (good_order : IsOrderFor asked.order asked.problem) (few : asked.events ≤ 1000000) where
  run_ok : IsCsp (run_problem asked)
  run_ok = ordered_csp asked.order asked.problem sound good_order

  steps_few : length (run_steps asked) ≤ 2 ^ 40 + 2 ^ 32
  steps_few =
      let told = length-told asked.order (run_world asked).network.steps in
      let size = (sizes_hold (run_problem asked) run_ok (run_numbers asked)).steps in
      let here = is_run (run_problem asked) (run_words asked) in
      let same_steps = ap (λ net. length net.steps) here in
      let same_deliveries = ap (λ net. net.deliveries) here in
      let counts = (handed_up_bounded (run_problem asked) run_ok (run_words asked)).numbered in
      let events = numbers_short (run_problem asked) (run_words asked) (begin (run_problem asked)) in
      let words = words_few (run_problem asked) (seeded_words asked.seed asked.events) most_calm in
      let given = length-map_below (word_at (generator_of asked.seed)) asked.events in
      omega (arith, told, size, same_steps, same_deliveries, counts, events, words, given, few)

  pub log_is_text : IsSmall (csp_of asked.problem) → IsRefutation (csp_of asked.problem) (run_steps asked) → IsTextOf (log_text (run_steps asked)) (run_steps asked)
  log_is_text small refutes = let log = have_logs (csp_of asked.problem) small (run_steps asked) refutes.right steps_few in record { short = log.short; reads = log.log }
