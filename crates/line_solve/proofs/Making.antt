-- What the code of a search makes of its rounds.
use Rattle.std.proofs.Common.{◌≡◌, ◌∙◌, ℕ, zero, suc, ◌+◌, ◌*◌, ◌^◌, ◌<◌, ◌≤◌, ◌==◌, ◌&&◌, ℤ, Bool, true, false, cond, List, [], ◌∷◌, length, Option, Some, None, Result, Ok, Err, refl, sym, ap, subst, arith, length-append}
use Rattle.std.specs.Prelude.{IfOk, is_some, option_copied}
use Rattle.std.specs.Borrow.{Bor}
use Rattle.std.proofs.Math.Dec.{eqb-suc-zero}
use Rattle.dcsp_script.specs.declared.stop.Stop.{Stop}
use Rattle.dcsp_script.specs.Scripts.{World, Put}
use Rattle.dcsp_script.specs.Ways.{Wrote}
use Rattle.dcsp_rule.specs.Problems.{Contents, csp_of}
use Rattle.dcsp_order.specs.Told.{ordered, Fits, IsOrderFor}
use Rattle.dcsp_rule.specs.Aims.{narrowed}
use Rattle.line_replay.specs.Outcomes.{HasAllValues}
use Rattle.line_replay.proofs.Outcomes.{has_values}
use Rattle.abt_defs.specs.Runs.{Run}
use Rattle.law_runs.specs.Replay.{Verdicts}
use Rattle.law_runs.proofs.Stopping.{stops}
use Rattle.abt_session.specs.Sessions.{Session, run_of}
use Rattle.abt_session.specs.Running.{kept, IsEnd, Gives}
use Rattle.abt_defs.specs.declared.end.End.{End}
use Rattle.abt_defs.specs.declared.end.End.TheVariants as ends
use Rattle.abt_session.specs.declared.outcome.Outcome.{Outcome}
use Rattle.line_replay.specs.Asked.{most_deliveries, set_session}
use Rattle.line_replay.specs.Settings.{Settings}
use Rattle.abt_optimum.specs.Rounds.{round_problem}
use Rattle.abt_optimum.specs.Searches.{SearchState, next_better, EndsRightly}
use Rattle.abt_optimum.proofs.SearchLaws.{round_many}
use Rattle.line_solve.specs.Searching.{AskedSearch, IsAskable, best_search, next_problem, next_session, end_as, next_end, with_round, search_after, problem_after, session_after, run_after, first_run, deliveries_in}
use Rattle.line_solve.specs.SearchScripts.{round_line, line_script}
use Rattle.line_solve.specs.declared.runner.SearchRunner.{SearchRunner}
use Rattle.line_solve.specs.Runners.{Tells, IsFresh, taken_after, steps_of_last, HasMade}
use Rattle.line_solve.proofs.Rounds.{is_over, starts, goes_on, same_problem}
use Rattle.line_solve.proofs.RoundProblems.{round_is_problem}
use Rattle.line_solve.proofs.Searches.{ends_rightly, is_problem_after, is_order_after, order_of_round}
use Rattle.line_solve.proofs.LastRounds.{first_is}

pub tells_of : (s : Session) (r : Result Outcome Stop) → IfOk r (Gives s) → Verdicts s.problem s.most (run_of s) → IfOk r (Tells s)
tells_of s (Ok outcome) gives right = record { gives = gives; right = right }
tells_of s (Err stop) gives right = tt

-- the line of a round, where traces are asked for
pub line_traced : {T : Type 0} {a b : World} {r : Result T Stop} (trace : Bool) (number : ℕ) → trace ≡ true → Wrote (Put (round_line number) ∷ []) a b r → Wrote (line_script trace number) a b r
line_traced {a = a} {b = b} {r = r} trace number e w = subst (λ (t : Bool). Wrote (line_script t number) a b r) (sym e) w

-- the narrowed problem is that of the round that follows
pub problem_next : (p q : Contents) (s : SearchState) (value : ℤ) → next_better s ≡ Some value → q ≡ narrowed p value → q ≡ round_problem p (next_better s)
problem_next p q s value e f = f ∙ ap (round_problem p) (sym e)

-- and so is the whole problem, where there is no value to better
pub whole_next : (p : Contents) (s : SearchState) → next_better s ≡ None → p ≡ round_problem p (next_better s)
whole_next p s e = ap (round_problem p) (sym e)

-- the session on that problem, with the number of the round, is that of the round that follows
pub next_is : (order : Option (List ℕ)) (p q : Contents) (log : List ℕ) (set : Settings) (s : SearchState) (rounds : ℕ) → q ≡ round_problem p (next_better s) → rounds ≡ length s.rounds
    → set_session order q log set (Some (rounds + 1)) ≡ next_session (best_search order p log set) s
next_is order p q log set s rounds e f = ap (λ (x : Contents). set_session order x log set (Some (rounds + 1))) e ∙ ap (λ (n : ℕ). set_session order (round_problem p (next_better s)) log set (Some (n + 1))) f

-- an order that fits the whole problem fits the narrowed one
pub fits_narrowed : (order : Option (List ℕ)) (p q : Contents) (value : ℤ) → q ≡ narrowed p value → IsOrderFor order p → Fits order q
fits_narrowed None p q value e good = tt
fits_narrowed (Some order) p q value e good = good.whole ∙ sym (round_many p (Some value)) ∙ ap (λ (x : Contents). length x.domains) (sym e)

-- what the run of the same session gives
pub tells_as : {s t : Session} (r : Result Outcome Stop) → s ≡ t → IfOk r (Tells s) → IfOk r (Tells t)
tells_as {s = s} {t = t} r f h = subst (λ (x : Session). IfOk r (Tells x)) f h

-- ---- how a round ended

-- the end that is told is that of the run
pub told_is : (order : Option (List ℕ)) (p : Contents) (run : Run) (end : End (List ℤ)) → IsEnd order (csp_of (ordered order p)) run.net run.end end → end ≡ end_as order p run run.end
told_is order p run (ends.Solved values) h = rw (h.0, h.1) refl
told_is order p run ends.Refuted h = rw h refl
told_is order p run ends.Spent h = rw h refl
told_is order p run ends.Capped h = rw h refl

module _ (asked : AskedSearch) (ok : IsAskable asked) (n : ℕ) where
  -- and is right
  pub told_right : (end : End (List ℤ)) → IsEnd asked.order (session_after asked n).problem (run_after asked n).net (run_after asked n).end end → Verdicts (session_after asked n).problem asked.set.choices (run_after asked n) → EndsRightly (problem_after asked n) end
  told_right end h law =
      let p = problem_after asked n in
      let right = ends_rightly asked.order p asked.set.choices (run_after asked n) (run_after asked n).end (is_problem_after asked ok n) (is_order_after asked ok n) refl law in
      subst (EndsRightly p) (sym (told_is asked.order p (run_after asked n) end h)) right

-- ---- counts

-- the rounds make no more deliveries than that
pub few_deliveries : (asked : AskedSearch) (n : ℕ) → asked.set.choices ≤ most_deliveries → deliveries_in asked n ≤ n * most_deliveries
few_deliveries asked zero few = omega arith
few_deliveries asked (suc n) few =
    let before = few_deliveries asked n few in
    let one = (stops (session_after asked n).problem asked.set.choices (session_after asked n).choices).at_most in
    omega (arith, before, one, few)

-- the numbers of the first round alone are taken down
pub takes_first : (keep : Bool) (n : ℕ) (first numbers : List ℕ) → (n ≡ 0 → numbers ≡ first) → cond (n == 0) (kept (keep && n == 0) numbers) (taken_after keep n first) ≡ taken_after keep (n + 1) first
takes_first keep zero first numbers same = by keep
  where
    by : (keep : Bool) → kept (keep && 0 == 0) numbers ≡ kept keep first
    by true = same refl
    by false = refl
takes_first keep (suc n) first numbers same =
    let e : suc (suc n) ≡ suc n + 1 = omega arith in
    ap (λ (b : Bool). cond b (kept (keep && suc n == 0) numbers) (kept keep first)) (eqb-suc-zero n) ∙ ap (λ (i : ℕ). taken_after keep i first) e

module _ (asked : AskedSearch) (n : ℕ) (r t : SearchRunner) (outcome : Outcome) (made : HasMade asked n r) (still : is_over r.search ≡ false) where
  -- one round more
  pub made_more : Tells (next_session asked r.search) outcome
      → outcome.numbers ≡ kept (is_some asked.set.record_file && r.rounds == 0) (run_of (next_session asked r.search)).numbers
      → t.search ≡ with_round r.search outcome.end → t.rounds ≡ r.rounds + 1 → t.deliveries ≡ r.deliveries + outcome.deliveries → t.steps ≡ outcome.steps
      → t.taken ≡ cond (r.rounds == 0) outcome.numbers r.taken → HasMade asked (n + 1) t
  made_more tells numbers search rounds deliveries steps taken =
      let next : n + 1 ≡ suc n = omega arith in
      let s = made.search in
      let open_ : is_over (search_after asked n) ≡ false = subst (λ (z : SearchState). is_over z ≡ false) s still in
      let end : outcome.end ≡ next_end asked (search_after asked n) = told_is asked.order (next_problem asked r.search) (run_of (next_session asked r.search)) outcome.end tells.gives.end ∙ ap (next_end asked) s in
      let is : t.search ≡ search_after asked (suc n) = search ∙ ap (λ (z : SearchState). with_round z outcome.end) s ∙ ap (with_round (search_after asked n)) end ∙ sym (goes_on asked n open_) in
      let size : length t.search.rounds ≡ n + 1 = ap (λ (z : SearchState). length z.rounds) search ∙ length-append r.search.rounds (_ ∷ []) ∙ ap (λ (i : ℕ). i + 1) made.many in
      let keep = is_some asked.set.record_file in
      let mine = (run_of (next_session asked r.search)).numbers in
      let run : run_of (next_session asked r.search) ≡ run_after asked n = ap (λ (z : SearchState). run_of (next_session asked z)) s in
      record {
        search = is ∙ ap (search_after asked) (sym next);
        many = size;
        rounds = rounds ∙ ap (λ (i : ℕ). i + 1) made.rounds;
        deliveries = deliveries ∙ ap (λ (i : ℕ). i + outcome.deliveries) made.deliveries ∙ ap (λ (i : ℕ). deliveries_in asked n + i) (tells.gives.deliveries ∙ ap (λ (x : Run). x.net.deliveries) run) ∙ ap (deliveries_in asked) (sym next);
        steps = steps ∙ tells.gives.steps ∙ ap (λ (x : Run). length x.net.steps) run ∙ ap (steps_of_last asked) (sym next);
        taken = taken ∙ ap (λ (l : List ℕ). cond (r.rounds == 0) l r.taken) numbers
            ∙ ap (λ (l : List ℕ). cond (r.rounds == 0) (kept (keep && r.rounds == 0) mine) l) made.taken
            ∙ ap (λ (i : ℕ). cond (i == 0) (kept (keep && i == 0) mine) (taken_after keep n (first_run asked).numbers)) made.rounds
            ∙ takes_first keep n (first_run asked).numbers mine (λ none. ap (λ (x : Run). x.numbers) (run ∙ ap (run_after asked) none ∙ first_is asked));
      }

-- ---- the round that follows

-- a round's problem has as many variables as the whole one
values_of_end : (better : Option ℤ) (p : Contents) (end : End (List ℤ)) → HasAllValues (round_problem p better) end → HasAllValues p end
values_of_end better p (ends.Solved values) h = h ∙ round_many p better
values_of_end better p ends.Refuted h = tt
values_of_end better p ends.Spent h = tt
values_of_end better p ends.Capped h = tt

module _ (asked : AskedSearch) (n : ℕ) (r : SearchRunner) (made : HasMade asked n r) where
  pub session_next : next_session asked r.search ≡ session_after asked n
  session_next = ap (next_session asked) made.search

  -- how it ends, and the values that it was solved with
  module _ (outcome : Outcome) (tells : Tells (next_session asked r.search) outcome) where
    pub end_next : outcome.end ≡ next_end asked (search_after asked n)
    end_next = told_is asked.order (next_problem asked r.search) (run_of (next_session asked r.search)) outcome.end tells.gives.end ∙ ap (next_end asked) made.search

    pub all_values : IsAskable asked → HasAllValues asked.problem outcome.end
    all_values ok =
        let p = next_problem asked r.search in
        let fine = round_is_problem asked.problem (next_better r.search) ok.problem in
        let good = order_of_round asked.order asked.problem (next_better r.search) ok.order in
        values_of_end (next_better r.search) asked.problem outcome.end (has_values asked.order p (run_of (next_session asked r.search)) fine good outcome.end tells.gives.end)

  pub problem_is : r.search.problem ≡ asked.problem
  problem_is = ap (λ (s : SearchState). s.problem) made.search ∙ same_problem asked n

module _ (asked : AskedSearch) (n : ℕ) (r : SearchRunner) (outcome : Outcome) (made : HasMade asked n r) where
  -- its counts are small
  pub few_more : n < 2 ^ 20 → asked.set.choices ≤ most_deliveries → Tells (next_session asked r.search) outcome → (r.rounds < 2 ^ 62) × (r.deliveries + outcome.deliveries < 2 ^ 62)
  few_more small choices tells =
      let rounds = made.rounds in
      let deliveries = made.deliveries in
      let few = few_deliveries asked n choices in
      let one = tells.gives.deliveries in
      let most : (run_of (next_session asked r.search)).net.deliveries ≤ asked.set.choices = tells.right.at_most in
      (omega arith, omega arith)

  -- and it ended rightly
  pub right_next : IsAskable asked → Tells (next_session asked r.search) outcome → EndsRightly (round_problem r.search.problem (next_better r.search)) outcome.end
  right_next ok tells =
      let s = search_after asked n in
      let at : EndsRightly (next_problem asked r.search) outcome.end = right_at r.search made.search tells in
      subst (λ (z : SearchState). EndsRightly (round_problem z.problem (next_better z)) outcome.end) (sym made.search)
      (subst (λ (p : Contents). EndsRightly (round_problem p (next_better s)) outcome.end) (sym (same_problem asked n)) (subst (λ (z : SearchState). EndsRightly (next_problem asked z) outcome.end) made.search at))
    where
      right_at : (z : SearchState) → z ≡ search_after asked n → Tells (next_session asked z) outcome → EndsRightly (next_problem asked z) outcome.end
      right_at z e tells =
          let law = subst (λ (x : SearchState). Tells (next_session asked x) outcome) e tells in
          subst (λ (x : SearchState). EndsRightly (next_problem asked x) outcome.end) (sym e) (told_right asked ok n outcome.end law.gives.end law.right)

-- no round was made yet
pub made_none : (asked : AskedSearch) (r : SearchRunner) → IsFresh asked.problem asked.set.halves r → HasMade asked 0 r
made_none asked r h = record {
  search = h.search ∙ sym (starts asked);
  many = ap (λ (s : SearchState). length s.rounds) h.search;
  rounds = h.rounds;
  deliveries = h.deliveries;
  steps = h.steps;
  taken = h.taken;
}

-- the numbers are taken down where that was asked for
pub numbers_where : (r : Result Outcome Stop) {keep keeps : Bool} (numbers : List ℕ) → keep ≡ keeps → IfOk r (λ outcome. outcome.numbers ≡ kept keep numbers) → IfOk r (λ outcome. outcome.numbers ≡ kept keeps numbers)
numbers_where r numbers e h = subst (λ (b : Bool). IfOk r (λ outcome. outcome.numbers ≡ kept b numbers)) e h

-- the same numbers of an equal session are taken down
pub numbers_as : (name : Option (Bor (List ℕ))) (rounds : ℕ) (r : Result Outcome Stop) {s t : Session} → s ≡ t → IfOk r (λ outcome. outcome.numbers ≡ kept (is_some name && rounds == 0) (run_of s).numbers)
    → IfOk r (λ outcome. outcome.numbers ≡ kept (is_some (option_copied name) && rounds == 0) (run_of t).numbers)
numbers_as name rounds r {s = s} {t = t} e h = subst (λ (x : Session). IfOk r (λ outcome. outcome.numbers ≡ kept (is_some (option_copied name) && rounds == 0) (run_of x).numbers)) e (by name h)
  where
    by : (name : Option (Bor (List ℕ))) → IfOk r (λ outcome. outcome.numbers ≡ kept (is_some name && rounds == 0) (run_of s).numbers) → IfOk r (λ outcome. outcome.numbers ≡ kept (is_some (option_copied name) && rounds == 0) (run_of s).numbers)
    by None h = h
    by (Some name) h = h
