-- What a run gave, and what is printed of it.
use Rattle.std.proofs.Common.{◌≡◌, ℕ, zero, suc, ◌+◌, ◌-◌, ◌≤◌, List, [], ◌∷◌, ◌++◌, length, take, Option, Some, None, slice_get, Bor, Result, Ok, Err, refl, sym, ap, ◌∙◌, arith}
use Rattle.std.specs.Prelude.{ℤ, Bool, is_ok, is_some, option_copied, if◌then◌else◌, OnOk}
use Rattle.dcsp_rule.specs.Problems.{Contents, csp_of}
use Rattle.dcsp_problem.specs.WellFormed.{IsProblem}
use Rattle.dcsp_order.specs.Told.{ordered, IsOrderFor}
use Rattle.line_replay.proofs.UnderOrder.{final_count}
use Rattle.abt_defs.specs.Runs.{Run}
use Rattle.abt_session.specs.Answers.{answer_then, first_answers}
use Rattle.abt_session.specs.Running.{kept, IsEnd, IsOutcome}
use Rattle.abt_defs.specs.declared.end.End.{End}
use Rattle.abt_defs.specs.declared.end.End.TheVariants.{Solved, Refuted, Spent, Capped}
use Rattle.abt_session.specs.declared.outcome.Outcome.{Outcome}
use Rattle.line_replay.specs.Endings.{final_values, verdict_text, counts_text, ending_text, end_status}
use Rattle.law_runs.proofs.Stopping.{stops}
use Rattle.abt_session.specs.Sessions.{run_of}
use Rattle.line_replay.specs.Asked.{most_deliveries, listed_session, record_script}
use Rattle.line_replay.specs.Outcomes.{end_text, outcome_text, outcome_status, HasAllValues}

module _ (order : Option (List ℕ)) (p : Contents) (run : Run) where
  end_text_is : (end : End (List ℤ)) → IsEnd order (csp_of (ordered order p)) run.net run.end end → end_text p end ≡ verdict_text p (final_values order p run) run.end
  end_text_is (Solved list) h = rw (h.0, h.1) refl
  end_text_is Refuted h = rw h refl
  end_text_is Spent h = rw h refl
  end_text_is Capped h = rw h refl

  -- what was given is printed as the run's end
  pub text_is : (outcome : Outcome) → IsOutcome order (csp_of (ordered order p)) run.net run.end outcome → outcome_text p outcome ≡ ending_text order p run
  text_is outcome h =
      ap (λ t. t ++ counts_text outcome.deliveries outcome.steps) (end_text_is outcome.end h.end)
      ∙ ap (λ n. verdict_text p (final_values order p run) run.end ++ counts_text n outcome.steps) h.deliveries
      ∙ ap (λ n. verdict_text p (final_values order p run) run.end ++ counts_text run.net.deliveries n) h.steps

  -- and has its status
  pub status_is : (end : End (List ℤ)) → IsEnd order (csp_of (ordered order p)) run.net run.end end → outcome_status end ≡ end_status run.end
  status_is (Solved list) h = rw h.0 refl
  status_is Refuted h = rw h refl
  status_is Spent h = rw h refl
  status_is Capped h = rw h refl

  -- and where it is solved, it has a value for each variable
  pub has_values : IsProblem p → IsOrderFor order p → (end : End (List ℤ)) → IsEnd order (csp_of (ordered order p)) run.net run.end end → HasAllValues p end
  has_values ok good (Solved list) h = ap length h.1 ∙ final_count order p ok good run
  has_values ok good Refuted h = tt
  has_values ok good Spent h = tt
  has_values ok good Capped h = tt

-- a text that grew where it could
pub ok_part : {T E : Type 0} (r : Result T E) (new grown old : List ℕ) → new ≡ (if is_ok r then grown else old) → OnOk r (new ≡ grown)
ok_part (Ok x) new grown old h = h
ok_part (Err e) new grown old h = tt

-- ---- choices of a list

same_answers : (n : ℕ) (f g : ℕ → Option ℕ) → ((k : ℕ) → f k ≡ g k) → first_answers n f ≡ first_answers n g
unfolding first_answers
same_answers zero f g h = refl
same_answers (suc n) f g h = ap (λ o. answer_then o (first_answers n (λ k. f (k + 1)))) (h 0) ∙ ap (λ l. answer_then (g 0) l) (same_answers n (λ k. f (k + 1)) (λ k. g (k + 1)) (λ k. h (k + 1)))

-- the first answers that a list gives are its first items
pub list_answers : (n : ℕ) (choices : List ℕ) → first_answers n (λ k. slice_get choices k) ≡ take n choices
unfolding first_answers
list_answers zero choices = refl
list_answers (suc n) [] = refl
list_answers (suc n) (c ∷ cs) = ap (λ l. c ∷ l) (same_answers n (λ k. slice_get (c ∷ cs) (k + 1)) (λ k. slice_get cs k) (λ k. let e : k + 1 ≡ suc k = omega arith in ap (λ i. slice_get (c ∷ cs) i) e) ∙ list_answers n cs)

none_at : (xs : List ℕ) → slice_get xs (length xs) ≡ None
none_at [] = refl
none_at (x ∷ xs) = none_at xs

past : (xs : List ℕ) (k : ℕ) → slice_get xs k ≡ None → length xs ≤ k
past [] k h = omega arith
past (x ∷ xs) zero h = absurd cc
past (x ∷ xs) (suc k) h = let l = past xs k h in omega (arith, l)

-- a list that gives the answers behind so many of another's is that much shorter
pub left_long : (now choices : List ℕ) (n : ℕ) → ((k : ℕ) → slice_get now k ≡ slice_get choices (n + k)) → n ≤ length choices → length now ≡ length choices - n
left_long now choices n h l =
    let at_most : length choices ≤ n + length now = past choices (n + length now) (sym (h (length now)) ∙ none_at now) in
    let e : n + (length choices - n) ≡ length choices = omega arith in
    let at_least : length now ≤ length choices - n = past now (length choices - n) (h (length choices - n) ∙ ap (slice_get choices) e ∙ none_at choices) in
    omega arith

take_short : (n : ℕ) (xs : List ℕ) → length (take n xs) ≤ length xs
take_short zero xs = omega arith
take_short (suc n) [] = omega arith
take_short (suc n) (x ∷ xs) = let l = take_short n xs in omega (arith, l)

-- a run of a list's choices makes no more deliveries than there are choices
pub made_few : (order : Option (List ℕ)) (p : Contents) (choices log : List ℕ) (trace : Bool) → (run_of (listed_session order p choices log trace)).net.deliveries ≤ length choices
made_few order p choices log trace =
    let h = stops (csp_of (ordered order p)) most_deliveries (first_answers most_deliveries (λ k. slice_get choices k)) in
    let c = h.chosen in
    omega (arith, c, ap length (list_answers most_deliveries choices), take_short most_deliveries choices)

-- ---- the record of a run

-- numbers are taken down only where a record is asked for
pub record_of : (name : Option (Bor (List ℕ))) (keep : Bool) (numbers taken : List ℕ) → keep ≡ is_some name → taken ≡ kept keep numbers → record_script (option_copied name) taken ≡ record_script (option_copied name) numbers
record_of None keep numbers taken e h = refl
record_of (Some name) keep numbers taken e h = ap (record_script (Some name.now)) (h ∙ ap (λ b. kept b numbers) e)
