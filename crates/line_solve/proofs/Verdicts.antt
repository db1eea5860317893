-- What the status of a search means for its problem.
use Rattle.std.proofs.Common.{◌≡◌, ◌≢◌, ◌⊎◌, ◌∙◌, ℕ, zero, suc, ◌+◌, ◌-◌, ◌<◌, ℤ, Bool, true, false, List, [], ◌∷◌, length, Option, Some, None, refl, sym, ap, subst, inl, inr, arith}
use Rattle.std.specs.Prelude.{◌↔◌, IsSome, IsSomeAnd, IfSome}
use Rattle.dcsp_defs.specs.Csp.{HasNoSolution}
use Rattle.dcsp_defs.specs.Derivation.{IsRefutation}
use Rattle.dcsp_rule.specs.declared.aim.Aim.{Aim}
use Rattle.dcsp_rule.specs.declared.aim.Aim.TheVariants.{Satisfy}
use Rattle.dcsp_rule.specs.Problems.{Contents, csp_of}
use Rattle.dcsp_rule.specs.Aims.{aimed_at, narrowed}
use Rattle.abt_defs.specs.Runs as runs
use Rattle.abt_defs.specs.Runs.{Run}
use Rattle.dcsp_script.specs.declared.status.Status.{Status}
use Rattle.dcsp_script.specs.declared.status.Status.TheVariants.{Good, No, Unfinished}
use Rattle.line_replay.specs.Endings.{assigned, final_values, end_status}
use Rattle.line_replay.proofs.Verdicts.{solve_unfinished}
use Rattle.line_replay.proofs.UnderOrder.{refutation_told}
use Rattle.abt_optimum.specs.declared.round.Round.{Round}
use Rattle.abt_defs.specs.declared.end.End.{End}
use Rattle.abt_defs.specs.declared.end.End.TheVariants.{Solved, Refuted, Spent, Capped}
use Rattle.abt_optimum.specs.declared.best.BestEnd.{BestEnd}
use Rattle.abt_optimum.specs.declared.best.BestEnd.TheVariants.{Optimal, NoSolution, Open}
use Rattle.abt_optimum.specs.Best.{aim_value, Solves, IsBest}
use Rattle.abt_optimum.specs.Rounds.{is_open, last_round, round_problem, most_rounds}
use Rattle.abt_optimum.specs.Searches.{SearchState, end_at, next_better, values_after}
use Rattle.abt_optimum.specs.Outcomes.{refuted_first, IsRefutedAt, IsBestEnd}
use Rattle.abt_optimum.specs.Kept.{end_of}
use Rattle.abt_optimum.proofs.SearchLaws.{end_is}
use Rattle.line_solve.specs.Searching.{AskedSearch, IsAskable, end_as, next_end, with_round, search_after, whole_search, round_count, problem_after, run_after, first_run, last_run, last_steps}
use Rattle.line_solve.specs.BestAnswers.{ends_capped, found, best_status, search_status}
use Rattle.line_solve.specs.BestHeadline.{PrintsBest, IsBestSearch, LogsRefutation, IsRefutedSearch, EndsOpen, IsLastSolved, PrintsLast, IsUnfinishedSearch, IsBoundedSearch}
use Rattle.line_solve.proofs.Rounds.{is_over, starts, goes_on, stays, same_problem}
use Rattle.line_solve.proofs.Headlines.{positive}
use Rattle.line_solve.proofs.RoundProblems.{ordered_bound}
use Rattle.line_solve.proofs.Searches.{law_after, is_problem_after, is_order_after, known_after, rising_after, is_search, is_whole, has_rounds}
use Rattle.line_solve.proofs.LastRounds.{end_refuted, capped_iff, before_last, some_before, whole_is, last_entry, last_is, last_capped, kept_after, LastSolved, last_solved, some_values, lt-or-eq, first_is}

-- ---- statuses and what was found

good_found : (end : BestEnd) → best_status end ≡ Good → (values : List ℤ) × (end ≡ Optimal values)
good_found (Optimal values) e = (values, refl)
good_found NoSolution e = absurd cc
good_found (Open values) e = absurd cc

no_found : (end : BestEnd) → best_status end ≡ No → end ≡ NoSolution
no_found (Optimal values) e = absurd cc
no_found NoSolution e = refl
no_found (Open values) e = absurd cc

-- the status is that of an unfinished search exactly where the last round is open
open_if : (capped : Bool) (values : Option (List ℤ)) → (best_status (end_of capped values) ≡ Unfinished) ↔ (capped ≡ true)
open_if true values = ((λ e. refl), (λ e. refl))
open_if false (Some values) = ((λ e. absurd cc), (λ e. absurd cc))
open_if false None = ((λ e. absurd cc), (λ e. absurd cc))

-- a round is open exactly where its run is unfinished
capped_end : (aim : Aim) (order : Option (List ℕ)) (p : Contents) (run : Run) (end : runs.End) → (is_open (end_at aim (end_as order p run end)) ≡ true) ↔ (end_status end ≡ Unfinished)
capped_end aim order p run runs.Solved = ((λ e. absurd cc), (λ e. absurd cc))
capped_end aim order p run runs.Refuted = ((λ e. absurd cc), (λ e. absurd cc))
capped_end aim order p run runs.Capped = ((λ e. refl), (λ e. refl))
capped_end aim order p run runs.Spent = ((λ e. refl), (λ e. refl))

-- an unfinished run is capped or spent
unfinished_end : (end : runs.End) → end_status end ≡ Unfinished → (end ≡ runs.Capped) ⊎ (end ≡ runs.Spent)
unfinished_end runs.Solved e = absurd cc
unfinished_end runs.Refuted e = absurd cc
unfinished_end runs.Capped e = inl refl
unfinished_end runs.Spent e = inr refl

-- of an open round the values found so far are kept
capped_keeps : (old : Option (List ℤ)) (aim : Aim) (end : End (List ℤ)) → is_open (end_at aim end) ≡ true → values_after old end ≡ old
capped_keeps old aim (Solved values) e = absurd cc
capped_keeps old aim Refuted e = absurd cc
capped_keeps old aim Spent e = refl
capped_keeps old aim Capped e = refl

module _ (asked : AskedSearch) (ok : IsAskable asked) (aimed : asked.problem.aim ≢ Satisfy) where
  -- the number of the last round
  abbrev last : ℕ
  last = before_last asked

  best_end : IsBestEnd (whole_search asked) (found (whole_search asked))
  best_end =
      let n = most_rounds asked.problem in
      let s = whole_search asked in
      end_is s (is_search asked ok aimed n) (known_after asked ok n) (rising_after asked ok n) (ends_capped s.rounds) (is_whole asked ok aimed) (capped_iff s.rounds)

  -- ---- refuted rounds

  -- where the last round was refuted, the derivation that was logged refutes the problem of that round
  refuted_last : (better : Option ℤ) → (last_entry asked).better ≡ better → (last_entry asked).end ≡ Refuted → IsRefutation (csp_of (round_problem asked.problem better)) (last_steps asked)
  refuted_last better to end =
      let s = search_after asked last in
      let refuted = end_refuted s.problem.aim asked.order (problem_after asked last) (run_after asked last) (run_after asked last).end end in
      let told = refutation_told asked.order (problem_after asked last) (is_problem_after asked ok last) (is_order_after asked ok last) (last_run asked).net.steps ((law_after asked ok last).refuted refuted) in
      subst (λ (b : Option ℤ). IsRefutation (csp_of (round_problem asked.problem b)) (last_steps asked)) to told

  -- where all rounds are a refuted first one, that is the last one
  only_entry : (whole_search asked).rounds ≡ refuted_first ∷ [] → last_entry asked ≡ refuted_first
  only_entry rounds = let both : Some (last_entry asked) ≡ Some refuted_first = sym (last_is asked) ∙ ap last_round rounds in cc

  module _ (status : Status) (status_is : status ≡ search_status asked) where
    shown_last : (values : List ℤ) → IsSomeAnd (last_round (whole_search asked).rounds) (IsRefutedAt (aim_value asked.problem.aim (assigned values))) → IsRefutation (csp_of (narrowed asked.problem (aim_value asked.problem.aim (assigned values)))) (last_steps asked)
    shown_last values h =
        let value = aim_value asked.problem.aim (assigned values) in
        let at : IsRefutedAt value (last_entry asked) = subst (λ (o : Option Round). IsSomeAnd o (IsRefutedAt value)) (last_is asked) h in
        refuted_last (Some value) at.better at.end

    prints_best : (values : List ℤ) → found (whole_search asked) ≡ Optimal values → PrintsBest asked values
    prints_best values e =
        let h = subst (IsBestEnd (whole_search asked)) e best_end in
        let same = same_problem asked (most_rounds asked.problem) in
        record {
          printed = e;
          best = subst (λ (p : Contents). IsBest p values) same h.best;
          shown = λ some. shown_last values (subst (λ (p : Contents). IsSomeAnd (last_round (whole_search asked).rounds) (IsRefutedAt (aim_value p.aim (assigned values)))) same (h.shown (subst (λ (p : Contents). IsSome (aimed_at p.aim)) (sym same) some)));
        }

    pub is_best : IsBestSearch asked status
    is_best good = let f = good_found (found (whole_search asked)) (sym status_is ∙ good) in (f.0, prints_best f.0 f.1)

    -- ---- status 1

    no_solution : status ≡ No → (whole_search asked).rounds ≡ refuted_first ∷ []
    no_solution is = (subst (IsBestEnd (whole_search asked)) (no_found (found (whole_search asked)) (sym status_is ∙ is)) best_end).rounds

    only_last : status ≡ No → last ≡ 0
    only_last is = let l = ap length (no_solution is) in omega arith

    refuted_at_first : status ≡ No → (first_run asked).end ≡ runs.Refuted
    refuted_at_first is =
        let s = search_after asked last in
        let same = only_entry (no_solution is) in
        let end : end_at s.problem.aim (next_end asked s) ≡ Refuted = ap (λ (r : Round). r.end) same in
        let refuted = end_refuted s.problem.aim asked.order (problem_after asked last) (run_after asked last) (run_after asked last).end end in
        sym (ap (λ (r : Run). r.end) (ap (run_after asked) (only_last is) ∙ first_is asked)) ∙ refuted

    logs_refutation : status ≡ No → LogsRefutation asked
    logs_refutation is =
        let rounds = no_solution is in
        let h = subst (IsBestEnd (whole_search asked)) (no_found (found (whole_search asked)) (sym status_is ∙ is)) best_end in
        record {
          refutes = refuted_last None (ap (λ (r : Round). r.better) (only_entry rounds)) (ap (λ (r : Round). r.end) (only_entry rounds));
          none = subst (λ (p : Contents). HasNoSolution (csp_of p)) (same_problem asked (most_rounds asked.problem)) h.none;
        }

    -- where the first round is refuted it is the only one
    refuted_whole : (first_run asked).end ≡ runs.Refuted → (m : ℕ) → most_rounds asked.problem ≡ suc m → found (whole_search asked) ≡ NoSolution
    refuted_whole e m many =
        let s : SearchState = record { problem = asked.problem; halves = asked.set.halves; rounds = []; values = None } in
        let open_ : is_over (search_after asked 0) ≡ false = ap is_over (starts asked) in
        let end : next_end asked s ≡ Refuted = ap (λ (x : runs.End). end_as asked.order asked.problem (first_run asked) x) e in
        let one : search_after asked 1 ≡ with_round s Refuted = goes_on asked 0 open_ ∙ ap (λ (z : SearchState). with_round z (next_end asked z)) (starts asked) ∙ ap (λ (x : End (List ℤ)). with_round s x) end in
        let over : is_over (search_after asked 1) ≡ true = ap is_over one in
        let z : most_rounds asked.problem ≡ m + 1 = omega arith in
        ap (λ (n : ℕ). found (search_after asked n)) z ∙ ap found (stays asked 1 m over) ∙ ap found one

    pub is_refuted : IsRefutedSearch asked status
    is_refuted = record {
      exactly = (
        refuted_at_first,
        (λ e. let m = positive (aimed_at asked.problem.aim) asked.problem in status_is ∙ ap best_status (refuted_whole e m.0 m.1)),
      );
      refutes = logs_refutation;
    }

    -- ---- status 5

    capped_exactly : (status ≡ Unfinished) ↔ (end_status (run_after asked last).end ≡ Unfinished)
    capped_exactly =
        let s = search_after asked last in
        let w = whole_search asked in
        let told = open_if (ends_capped w.rounds) w.values in
        let run = capped_end s.problem.aim asked.order (problem_after asked last) (run_after asked last) (run_after asked last).end in
        ((λ e. run.0 (sym (last_capped asked) ∙ told.0 (sym status_is ∙ e))), (λ e. status_is ∙ told.1 (last_capped asked ∙ run.1 e)))

    ends_open : end_status (run_after asked last).end ≡ Unfinished → EndsOpen asked
    ends_open e = let h = (solve_unfinished asked.order (problem_after asked last) asked.log asked.set (end_status (run_after asked last).end) refl).0 e in record { in_transit = h.0; most = h.1 }

    open_ends : EndsOpen asked → end_status (run_after asked last).end ≡ Unfinished
    open_ends h = (solve_unfinished asked.order (problem_after asked last) asked.log asked.set (end_status (run_after asked last).end) refl).1 (h.in_transit, h.most)

    -- the values that were found are those of the round before the last, if there is one
    kept_values : end_status (run_after asked last).end ≡ Unfinished → (whole_search asked).values ≡ (search_after asked last).values
    kept_values e =
        let s = search_after asked last in
        let run = capped_end s.problem.aim asked.order (problem_after asked last) (run_after asked last) (run_after asked last).end in
        ap (λ (z : SearchState). z.values) (whole_is asked) ∙ capped_keeps s.values s.problem.aim (next_end asked s) (run.1 e)

    -- without halves
    values_at : asked.set.halves ≡ false → (n : ℕ) → last ≡ n → (search_after asked n).values ≡ (whole_search asked).values
        → IfSome (whole_search asked).values (λ list. list ≡ final_values asked.order (problem_after asked (round_count asked - 2)) (run_after asked (round_count asked - 2)))
    values_at plain zero e same =
        let none : None ≡ (whole_search asked).values = sym (ap (λ (s : SearchState). s.values) (starts asked)) ∙ same in
        subst (λ (o : Option (List ℤ)). IfSome o (λ list. list ≡ final_values asked.order (problem_after asked (round_count asked - 2)) (run_after asked (round_count asked - 2)))) none tt
    values_at plain (suc m) e same =
        let count = some_before asked in
        let kept = kept_after asked m plain (omega arith) in
        let at : m ≡ round_count asked - 2 = omega arith in
        let some : Some (final_values asked.order (problem_after asked (round_count asked - 2)) (run_after asked (round_count asked - 2))) ≡ (whole_search asked).values = sym (kept ∙ ap (λ (n : ℕ). Some (final_values asked.order (problem_after asked n) (run_after asked n))) at) ∙ same in
        subst (λ (o : Option (List ℤ)). IfSome o (λ list. list ≡ final_values asked.order (problem_after asked (round_count asked - 2)) (run_after asked (round_count asked - 2)))) some refl

    -- the last round was not solved
    unsolved_last : (values : List ℤ) → end_status (run_after asked last).end ≡ Unfinished → next_end asked (search_after asked last) ≡ Solved values → ⊥
    unsolved_last values e solved =
        let s = search_after asked last in
        let capped = (capped_end s.problem.aim asked.order (problem_after asked last) (run_after asked last) (run_after asked last).end).1 e in
        let clash : false ≡ true = sym (ap (λ (x : End (List ℤ)). is_open (end_at s.problem.aim x)) solved) ∙ capped in
        cc

    solved_at : end_status (run_after asked last).end ≡ Unfinished → (o : Option (List ℤ)) → IfSome o (LastSolved asked last) → IfSome o (IsLastSolved asked)
    solved_at e None h = tt
    solved_at e (Some values) h =
        let count = some_before asked in
        record {
          number = h.number;
          within = (let l = h.within in omega (arith, l, count));
          solved = h.solved;
          later = λ k other l m f. elim (lt-or-eq k last (omega (arith, m, count))) [
            | inl before ↦ h.later k other l before f
            | inr same ↦ unsolved_last other e (subst (λ (i : ℕ). next_end asked (search_after asked i) ≡ Solved other) same f)
          ];
        }

    some_at : (n : ℕ) → last ≡ n → 1 < round_count asked → IsSome (search_after asked n).values
    some_at zero e more = absurd (let count = some_before asked in omega (arith, count, more, e))
    some_at (suc m) e more = some_values asked m (let count = some_before asked in omega (arith, count, more, e))

    prints_last : status ≡ Unfinished → PrintsLast asked (whole_search asked).values
    prints_last is =
        let w = whole_search asked in
        let e = capped_exactly.0 is in
        let capped = (open_if (ends_capped w.rounds) w.values).0 (sym status_is ∙ is) in
        let values = sym (kept_values e) in
        let count = some_before asked in
        record {
          printed = ap (λ (b : Bool). end_of b w.values) capped;
          solves = subst (λ (p : Contents). IfSome w.values (Solves p)) (same_problem asked (most_rounds asked.problem)) (is_search asked ok aimed (most_rounds asked.problem)).solves;
          solved = subst (λ (o : Option (List ℤ)). IfSome o (IsLastSolved asked)) values (solved_at e (search_after asked last).values (last_solved asked last (omega (arith, count))));
          last = λ plain. values_at plain last refl values;
          some = λ more. subst IsSome values (some_at last refl more);
        }

    pub is_unfinished : IsUnfinishedSearch asked status
    is_unfinished = record {
      exactly = ((λ is. ends_open (capped_exactly.0 is)), (λ h. capped_exactly.1 (open_ends h)));
      prints = prints_last;
    }

    -- ---- the bound

    pub is_bounded : IsBoundedSearch asked status
    is_bounded = record {
      rounds = has_rounds asked ok aimed;
      bounded = λ n l. let law = (law_after asked ok n).bound in let whole = ordered_bound asked.order asked.problem (next_better (search_after asked n)) ok.problem in omega (arith, law, whole);
      verdict = λ low is.
          let e = capped_exactly.0 is in
          let most = (ends_open e).most in
          let less = (law_after asked ok last).unfinished (unfinished_end (run_after asked last).end e) in
          let whole = ordered_bound asked.order asked.problem (next_better (search_after asked last)) ok.problem in
          omega (arith, low, most, less, whole);
    }
