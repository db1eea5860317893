-- What is told of a search that is over.
use Rattle.std.proofs.Common.{◌≡◌, ◌≢◌, ◌∙◌, ℕ, suc, ◌-◌, ℤ, Bool, true, false, List, [], ◌∷◌, ◌++◌, length, Option, Some, None, Result, Ok, Err, refl, sym, ap, subst, arith}
use Rattle.std.specs.Prelude.{◌↔◌, IfSome, IsErr, IsErrAnd, option_map, is_some}
use Rattle.dcsp_script.specs.declared.stop.Stop.{Stop}
use Rattle.dcsp_script.specs.Scripts.{Write, Put, World}
use Rattle.dcsp_script.specs.Ways.{Wrote}
use Rattle.dcsp_script.proofs.Lines.{then_rest, then_stopped}
use Rattle.dcsp_rule.specs.declared.aim.Aim.TheVariants.{Satisfy}
use Rattle.dcsp_rule.specs.Problems.{Contents}
use Rattle.abt_session.specs.Running.{kept}
use Rattle.abt_session.proofs.Pieces.{wrote_as, stopped_so}
use Rattle.line_replay.specs.Endings.{counts_text}
use Rattle.line_replay.specs.Asked.{record_script}
use Rattle.line_replay.proofs.Telling.{as_ok}
use Rattle.abt_optimum.specs.declared.best.BestEnd.{BestEnd}
use Rattle.abt_optimum.specs.declared.best.BestEnd.TheVariants.{Optimal, NoSolution, Open}
use Rattle.abt_optimum.specs.Best.{aim_value, assigned, Solves}
use Rattle.abt_optimum.specs.Rounds.{best_value, most_rounds}
use Rattle.abt_optimum.specs.Searches.{SearchState, IsSearch}
use Rattle.abt_optimum.specs.Outcomes.{EndsCapped, IsBestEnd}
use Rattle.abt_optimum.specs.Kept.{end_of}
use Rattle.line_solve.specs.Searching.{AskedSearch, IsAskable, whole_search, round_count, first_run, deliveries_in}
use Rattle.line_solve.specs.BestAnswers.{ends_capped, found, best_text, rounds_text, answer_text}
use Rattle.line_solve.specs.SearchScripts.{rounds_script, ending_script, search_script}
use Rattle.line_solve.specs.declared.answer.Searched.{Searched}
use Rattle.line_solve.specs.declared.runner.SearchRunner.{SearchRunner}
use Rattle.line_solve.specs.Runners.{taken_after, steps_of_last, HasMade, searched_text, HasBestValues}
use Rattle.line_solve.proofs.Rounds.{is_over, same_problem, counted}
use Rattle.line_solve.proofs.Headlines.{has_round}
use Rattle.line_solve.proofs.Searches.{is_search, is_whole}
use Rattle.line_solve.proofs.LastRounds.{capped_iff}

-- ---- what the search found

-- without a round that was solved there are no values
no_values : (s : SearchState) → IsSearch s → best_value s.rounds ≡ None → s.values ≡ None
no_values s h none = by s.values (h.value ∙ none)
  where
    by : (o : Option (List ℤ)) → option_map (λ values. aim_value s.problem.aim (assigned values)) o ≡ None → o ≡ None
    by None e = refl
    by (Some values) e = absurd cc

-- what is told of a search is what it found
pub found_is : (s : SearchState) (end : BestEnd) → IsSearch s → IsBestEnd s end → EndsCapped s.rounds ↔ (end ≡ Open s.values) → end ≡ found s
found_is s (Optimal values) search h open_ = by (ends_capped s.rounds) refl
  where
    by : (capped : Bool) → ends_capped s.rounds ≡ capped → Optimal values ≡ end_of capped s.values
    by true e = absurd (let clash : Optimal values ≡ Open s.values = open_.0 ((capped_iff s.rounds).0 e) in cc)
    by false e = ap (λ (o : Option (List ℤ)). end_of false o) (sym h.kept)
found_is s NoSolution search h open_ =
    let none = no_values s search (ap best_value h.rounds) in
    sym (ap (λ (o : Option (List ℤ)). end_of (ends_capped s.rounds) o) none ∙ ap (λ rounds. end_of (ends_capped rounds) None) h.rounds)
found_is s (Open values) search h open_ =
    let capped : ends_capped s.rounds ≡ true = (capped_iff s.rounds).1 h.capped in
    sym (ap (λ (b : Bool). end_of b s.values) capped ∙ ap Open h.kept)

-- what was found has a value for each variable
values_at : (p : Contents) (capped : Bool) (values : Option (List ℤ)) → IfSome values (Solves p) → HasBestValues p (end_of capped values)
values_at p true None h = tt
values_at p true (Some values) h = h.many
values_at p false None h = tt
values_at p false (Some values) h = h.many

module _ (asked : AskedSearch) (r : SearchRunner) (made : HasMade asked (round_count asked) r) where
  pub search_is : r.search ≡ whole_search asked
  search_is = made.search ∙ (counted asked (most_rounds asked.problem)).again

  module _ (ok : IsAskable asked) (aimed : asked.problem.aim ≢ Satisfy) where
    pub searched_is : IsSearch r.search
    searched_is = subst IsSearch (sym search_is) (is_search asked ok aimed (most_rounds asked.problem))

    pub over_is : is_over r.search ≡ true
    over_is = ap is_over search_is ∙ is_whole asked ok aimed

    pub has_values : (end : BestEnd) → end ≡ found r.search → HasBestValues asked.problem end
    has_values end e =
        let n = most_rounds asked.problem in
        let s = whole_search asked in
        let solves = subst (λ (p : Contents). IfSome s.values (Solves p)) (same_problem asked n) (is_search asked ok aimed n).solves in
        subst (HasBestValues asked.problem) (sym (e ∙ ap found search_is)) (values_at asked.problem (ends_capped s.rounds) s.values solves)

  -- the text that is told is the answer
  pub text_is : (told : Searched) → told.best.end ≡ found r.search → told.best.rounds ≡ length r.search.rounds → told.deliveries ≡ r.deliveries → told.steps ≡ r.steps → searched_text asked.set.each asked.problem told ≡ answer_text asked
  text_is told end rounds deliveries steps =
      let h = has_round asked in
      let last : round_count asked ≡ suc (round_count asked - 1) = omega arith in
      ap (λ (b : BestEnd). best_text asked.set.each asked.problem b ++ (rounds_text told.best.rounds ++ counts_text told.deliveries told.steps)) (end ∙ ap found search_is)
      ∙ ap (λ (n : ℕ). best_text asked.set.each asked.problem (found (whole_search asked)) ++ (rounds_text n ++ counts_text told.deliveries told.steps)) (rounds ∙ ap (λ (s : SearchState). length s.rounds) search_is)
      ∙ ap (λ (n : ℕ). best_text asked.set.each asked.problem (found (whole_search asked)) ++ (rounds_text (round_count asked) ++ counts_text n told.steps)) (deliveries ∙ made.deliveries)
      ∙ ap (λ (n : ℕ). best_text asked.set.each asked.problem (found (whole_search asked)) ++ (rounds_text (round_count asked) ++ counts_text (deliveries_in asked (round_count asked)) n)) (steps ∙ made.steps ∙ ap (steps_of_last asked) last)

  -- the record is that of the first round
  pub record_is : (numbers : List ℕ) → numbers ≡ r.taken → record_script asked.set.record_file numbers ≡ record_script asked.set.record_file (first_run asked).numbers
  record_is numbers e = by asked.set.record_file refl
    where
      last : round_count asked ≡ suc (round_count asked - 1)
      last = let h = has_round asked in omega arith

      taken : numbers ≡ kept (is_some asked.set.record_file) (first_run asked).numbers
      taken = e ∙ made.taken ∙ ap (λ (n : ℕ). taken_after (is_some asked.set.record_file) n (first_run asked).numbers) last

      by : (name : Option (List ℕ)) → asked.set.record_file ≡ name → record_script name numbers ≡ record_script name (first_run asked).numbers
      by None k = refl
      by (Some name) k = ap (record_script (Some name)) (taken ∙ ap (λ (o : Option (List ℕ)). kept (is_some o) (first_run asked).numbers) k)

-- ---- what is written after the rounds

module _ (asked : AskedSearch) where
  abbrev all_rounds : List Write
  all_rounds = rounds_script asked (round_count asked)

  -- the rounds were stopped
  pub rounds_stopped : {T U : Type 0} {a b : World} {e : Stop} (r : Result U Stop) → IsErr r × IsErrAnd r (λ y. y ≡ e) → Wrote {T = T} all_rounds a b (Err e) → Wrote (search_script asked) a b r
  rounds_stopped r is w = then_stopped (ending_script asked) is w

  module _ (numbers : List ℕ) (same : record_script asked.set.record_file numbers ≡ record_script asked.set.record_file (first_run asked).numbers) {T : Type 0} {x : T} {a b : World} (rounds : Wrote {T = T} all_rounds a b (Ok x)) where
    -- the record was stopped
    pub record_stopped : {U V : Type 0} {c : World} {e : Stop} (r : Result V Stop) → IsErr r × IsErrAnd r (λ y. y ≡ e) → Wrote {T = U} (record_script asked.set.record_file numbers) b c (Err e) → Wrote (search_script asked) a c r
    record_stopped {U = U} r is w = then_rest rounds (then_stopped {T = U} (Put (answer_text asked) ∷ []) is (wrote_as same w))

    module _ {U : Type 0} {y : U} {c : World} (kept_so : Wrote {T = U} (record_script asked.set.record_file numbers) b c (Ok y)) (text : List ℕ) (text_is : text ≡ answer_text asked) where
      -- the answer was not put
      pub answer_stopped : {V W : Type 0} {d : World} {e : Stop} (r : Result W Stop) → IsErr r × IsErrAnd r (λ z. z ≡ e) → Wrote {T = V} (Put text ∷ []) c d (Err e) → Wrote (search_script asked) a d r
      answer_stopped {V = V} r is w = then_rest rounds (then_rest (wrote_as same kept_so) (stopped_so {T = V} r is (wrote_as (ap (λ t. Put t ∷ []) text_is) w)))

      -- it was
      pub answered : {V W : Type 0} {d : World} {z : V} (v : W) → Wrote {T = V} (Put text ∷ []) c d (Ok z) → Wrote (search_script asked) a d (Ok v)
      answered v w = then_rest rounds (then_rest (wrote_as same kept_so) (as_ok v (wrote_as (ap (λ t. Put t ∷ []) text_is) w)))
