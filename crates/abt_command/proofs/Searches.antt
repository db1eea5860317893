-- What a search that the words ask for left, sentence by sentence.
use Rattle.std.proofs.Common.{◌≡◌, ◌≢◌, ◌+◌, ◌-◌, ◌<◌, ◌≤◌, zero, suc, ℕ, ℤ, Bool, true, false, cond, List, [], ◌∷◌, length, filter, Option, Some, None, refl, sym, subst, arith, inl, inr}
use Rattle.std.specs.Prelude.{IfSome, slice_set, slice_index_or}
use Rattle.std.proofs.lemmas.List.{length-set, length-map}
use Rattle.dcsp_domain.proofs.Domains.{length_filter}
use Rattle.dcsp_outside.specs.Outside.{Stream, Told, bytes_of}
use Rattle.dcsp_outside.proofs.Changes.{Told-weaker}
use Rattle.dcsp_script.specs.Scripts.{World}
use Rattle.dcsp_script.specs.Ways.{Did, DidPartOf}
use Rattle.dcsp_defs.specs.Words.{In}
use Rattle.dcsp_defs.specs.Derivation.{IsRefutation}
use Rattle.dcsp_rule.specs.Problems.{Contents, constraint_of, csp_of}
use Rattle.dcsp_problem.specs.WellFormed.{IsProblem}
use Rattle.dcsp_rule.specs.Aims.{aimed_at, is_better, narrowed_at, narrowed}
use Rattle.dcsp_script.specs.declared.status.Status.{Status}
use Rattle.dcsp_script.specs.Statuses.{IsFinal}
use Rattle.dcsp_script.specs.Runs.{Ran}
use Rattle.dcsp_script.proofs.Following.{report_part, report_did}
use Rattle.ngd_log.specs.Logs.{log_text}
use Rattle.ngd_check.specs.Logged.{IsSmall}
use Rattle.abt_input.specs.Inputs.{IsModelOf, IsTextOf}
use Rattle.line_check.specs.Taking.{taking_of}
use Rattle.line_check.specs.Verifying.{IsVerifiedBy}
use Rattle.line_check.proofs.Verifying.{refutation_verified_by}
use Rattle.line_replay.specs.Endings.{assigned}
use Rattle.line_replay.proofs.UnderOrder.{ordered_csp}
use Rattle.line_replay.proofs.Verdicts.{run_log}
use Rattle.abt_command.proofs.Runs.{order_of_files}
use Rattle.abt_optimum.specs.Best.{aim_value}
use Rattle.line_solve.specs.Searching.{AskedSearch, IsAskable, round_count, problem_after, session_after, last_steps}
use Rattle.line_solve.specs.BestAnswers.{search_status}
use Rattle.line_solve.specs.SearchScripts.{search_script, search_report}
use Rattle.line_solve.specs.SolvePromise.{solve_promise}
use Rattle.line_solve.specs.BestHeadline.{puts_of_first, HoldsSearch, IsSearched, IsBestSearch, IsImproving, IsRefutedSearch, IsUnfinishedSearch, IsBoundedSearch, SearchOrdered}
use Rattle.line_solve.proofs.Lawful.{solve_lawful, reports_search}
use Rattle.line_solve.proofs.Headlines.{OwnsRecord, is_searched, part_ordered}
use Rattle.line_solve.proofs.Answered.{answer_stands}
use Rattle.law_subjects.proofs.Accepting.{accepted_are_problems}
use Rattle.line_solve.proofs.Improving.{is_improving}
use Rattle.line_solve.proofs.Searches.{is_problem_after, is_order_after}
use Rattle.line_solve.proofs.Verdicts.{is_best, is_refuted, is_unfinished, is_bounded}
use Rattle.law_subjects.proofs.MeantWhole.{solutions_satisfy}
use Rattle.abt_command.specs.Lines.{Line, Solve, IsLine, IsNoLine, promise_of}
use Rattle.abt_command.specs.AskedRuns.{RunsModel, AskForModel}
use Rattle.abt_command.specs.AskedSearches.{AsksForSearch, EachSearch, EachTrueSearch, IsCheckedSearch, IsCheckedBest, IsSatisfyingSearch, IsTrueSearch}
use Rattle.abt_command.proofs.Lines.{one_line, one_some, solve_names, solve_within}

-- ---- logs can name what is left of a problem that is narrowed

in_filter : (test : ℤ → Bool) (v : ℤ) (xs : List ℤ) → In v (filter test xs) → In v xs
in_filter test v [] i = absurd i
in_filter test v (x ∷ xs) i = kept (test x) (in_filter test v xs) i
  where
    kept : (b : Bool) → (In v (filter test xs) → In v xs) → In v (cond b (x ∷ filter test xs) (filter test xs)) → In v (x ∷ xs)
    kept true later (inl e) = inl e
    kept true later (inr j) = inr (later j)
    kept false later j = inr (later j)

-- the domains, where of one only the values that pass the test stay
abbrev cut : (ℤ → Bool) → ℕ → List (List ℤ) → List (List ℤ)
cut test var domains = slice_set domains var (filter test (slice_index_or domains var []))

in_cut : (test : ℤ → Bool) (domains : List (List ℤ)) (var x : ℕ) (v : ℤ) → In v (slice_index_or (cut test var domains) x []) → In v (slice_index_or domains x [])
in_cut test [] var x v i = i
in_cut test (d ∷ ds) zero zero v i = in_filter test v d i
in_cut test (d ∷ ds) zero (suc x) v i = i
in_cut test (d ∷ ds) (suc var) zero v i = i
in_cut test (d ∷ ds) (suc var) (suc x) v i = in_cut test ds var x v i

long_cut : (test : ℤ → Bool) (domains : List (List ℤ)) (var x : ℕ) → length (slice_index_or (cut test var domains) x []) ≤ length (slice_index_or domains x [])
long_cut test [] var x = omega arith
long_cut test (d ∷ ds) zero zero = length_filter test d
long_cut test (d ∷ ds) zero (suc x) = omega arith
long_cut test (d ∷ ds) (suc var) zero = omega arith
long_cut test (d ∷ ds) (suc var) (suc x) = long_cut test ds var x

small_narrowed : (p : Contents) (bound : ℤ) → IsSmall (csp_of p) → IsSmall (csp_of (narrowed p bound))
small_narrowed p bound small = by (aimed_at p.aim)
  where
    by : (o : Option ℕ) → IsSmall (csp_of (narrowed_at o p bound))
    by None = small
    by (Some var) =
        let test = is_better p.aim bound in
        let same = length-set p.domains var (filter test (slice_index_or p.domains var [])) in
        let few = small.variables in
        record {
          variables = omega arith;
          rules = let many = small.rules in omega (arith, length-map p.rules (constraint_of (length p.domains)), length-map p.rules (constraint_of (length (cut test var p.domains))), many);
          domains = λ x l. let long = long_cut test p.domains var x in let most = small.domains x (omega (arith, l, same)) in omega (arith, long, most);
          values = λ x v l i. small.values x v (omega (arith, l, same)) (in_cut test p.domains var x v i);
        }

-- words that are no line ask for no search
pub asks_no_search : (words : List (List ℕ)) (held : Option (List ℕ → Option (List ℕ))) (P : AskedSearch → Type 0) → IsNoLine words → EachSearch words held P
asks_no_search words None P none = tt
asks_no_search words (Some files) P none = λ asked asks. absurd (none (Solve asks.model asked.log asked.set) asks.line_is)

-- ---- the search that is asked for, whatever comes of it

module _ (words : List (List ℕ)) (files : List ℕ → Option (List ℕ)) (asked : AskedSearch) (asks : AsksForSearch words files asked) where
  -- the model's text was accepted
  whole : IsProblem asked.problem
  whole = (accepted_are_problems (bytes_of (files asks.model))).within_limits asked.problem asks.model_is.short asks.model_is.reads

  small : IsSmall (csp_of asked.problem)
  small = (accepted_are_problems (bytes_of (files asks.model))).small asked.problem asks.model_is.short asks.model_is.reads

  askable : IsAskable asked
  askable = record { problem = whole; order = order_of_files files asked.set.order_file asked.problem asked.order asks.order_is }

  -- the model of the search has a name of its own
  own_model : (model : List ℕ) → AskForModel words model → (model ≢ asked.log) × IfSome asked.set.record_file (λ k. model ≢ k) × IsModelOf (bytes_of (files model)) asked.problem
  own_model model asks_model =
      let same : asks.model ≡ model = one_some (subst (λ x. RunsModel x model) (one_line words asks_model.line (Solve asks.model asked.log asked.set) asks_model.is asks.line_is) asks_model.runs) in
      subst (λ m. (m ≢ asked.log) × IfSome asked.set.record_file (λ k. m ≢ k) × IsModelOf (bytes_of (files m)) asked.problem) same ((solve_names words asks.model asked.log asked.set asks.line_is).log_is_other, (solve_names words asks.model asked.log asked.set asks.line_is).record_is_other, asks.model_is)

  own : OwnsRecord asked
  own = (solve_names words asks.model asked.log asked.set asks.line_is).record_is_own

  -- the log of the last round is a text of its steps
  log_is : (p : Contents) → IsSmall (csp_of p) → IsRefutation (csp_of p) (last_steps asked) → IsTextOf (log_text (last_steps asked)) (last_steps asked)
  log_is p few refutes = run_log (session_after asked (round_count asked - 1)) (csp_of p) (solve_within asks.model asked.log asked.set (words, asks.line_is)) (ordered_csp asked.order (problem_after asked (round_count asked - 1)) (is_problem_after asked askable (round_count asked - 1)) (is_order_after asked askable (round_count asked - 1))) few refutes.right

  -- a check over the folder that was left, of what the log refutes
  verifies : (better : Option ℤ) (p : Contents) → IsSmall (csp_of p) → IsRefutation (csp_of p) (last_steps asked) → ((now : List ℕ → Option (List ℕ)) (model : List ℕ) → IsModelOf (bytes_of (now model)) asked.problem → (taking_of better).Is (bytes_of (now model)) p)
      → (held : Option (List ℕ → Option (List ℕ))) → Told (Some files) held (HoldsSearch asked) → (model : List ℕ) → AskForModel words model → IfSome held (λ left. IsVerifiedBy (taking_of better) left model asked.log)
  verifies better p few refutes taken None h model asks_model = tt
  verifies better p few refutes taken (Some left) h model asks_model =
      let mine = own_model model asks_model in
      let same : left model ≡ files model = h.others model (mine.0, mine.1) in
      refutation_verified_by better left model asked.log p (last_steps asked) (taken left model (subst (λ x. IsModelOf (bytes_of x) asked.problem) (sym same) mine.2)) (subst (λ x. IsTextOf (bytes_of x) (last_steps asked)) (sym h.log) (log_is p few refutes)) refutes

  -- what it says, where all was written
  checked : (held : Option (List ℕ → Option (List ℕ))) → Told (Some files) held (HoldsSearch asked) → (status : Status) → status ≡ search_status asked → IsCheckedSearch words held asked status
  checked held holds status is = record {
    refuted = λ no. verifies None asked.problem small ((is_refuted asked askable asks.aims status is).refutes no).refutes (λ now model x. x) held holds;
    best = λ good some values prints.
        let value = aim_value asked.problem.aim (assigned values) in
        verifies (Some value) (narrowed asked.problem value) (small_narrowed asked.problem value small) (prints.shown some)
        (λ now model x. record { whole = asked.problem; model_is = x; known = whole.aim; aimed = some; narrowed_is = refl }) held holds;
  }

  satisfying : (status : Status) → IsSatisfyingSearch words (Some files) asked status
  satisfying status = λ good values prints model asks_model.
      let mine = own_model model asks_model in
      (solutions_satisfy (bytes_of (files model)) asked.problem mine.2.reads (assigned values)).0 prints.best.solves.solution

  is_true : IsTrueSearch words files asked
  is_true = record {
    best = is_best asked askable asks.aims (search_status asked) refl;
    satisfies = satisfying (search_status asked);
    refuted = is_refuted asked askable asks.aims (search_status asked) refl;
    unfinished = is_unfinished asked askable asks.aims (search_status asked) refl;
    bounded = is_bounded asked askable asks.aims (search_status asked) refl;
  }

pub searches_are_true : (words : List (List ℕ)) (held : Option (List ℕ → Option (List ℕ))) → EachTrueSearch words held
searches_are_true words None = tt
searches_are_true words (Some files) = λ asked asks. is_true words files asked asks

-- a search finds better values
pub searches_improve : (words : List (List ℕ)) (held : Option (List ℕ → Option (List ℕ))) → EachSearch words held IsImproving
searches_improve words None = tt
searches_improve words (Some files) = λ asked asks. is_improving asked (askable words files asked asks) asks.aims

module _ (words : List (List ℕ)) (line : Line) (is : IsLine words line) (a b : World) (err now : Stream) (status : Status) (line_ran : Ran (promise_of line) a b err now status) where
  module _ (files : List ℕ → Option (List ℕ)) (told : a.folder.held ≡ Some files) (asked : AskedSearch) (asks : AsksForSearch words files asked) where
    line_did : Ran (solve_promise asks.model asked.log asked.set) a b err now status
    line_did = subst (λ x. Ran (promise_of x) a b err now status) (one_line words line (Solve asks.model asked.log asked.set) is asks.line_is) line_ran

    did_search : IsFinal status → (status ≡ search_status asked) × Did (search_script asked) a b
    did_search f = report_did (solve_promise asks.model asked.log asked.set) (solve_lawful asks.model asked.log asked.set) a b err now files told (search_report asked) (reports_search asked.problem asked.log asked.set files asks.model asks.model_is asked.order asks.order_is asks.aims) status line_did f

    made_part : DidPartOf (search_script asked) a b
    made_part = report_part (solve_promise asks.model asked.log asked.set) (solve_lawful asks.model asked.log asked.set) a b err now files told (search_report asked) (reports_search asked.problem asked.log asked.set files asks.model asks.model_is asked.order asks.order_is asks.aims) status line_did

    in_order : SearchOrdered asked a b
    in_order = part_ordered asked (own words files asked asks) a b made_part

    -- what a check says where the log was written whole
    checked_left : Told a.folder.held b.folder.held (HoldsSearch asked) → (end : Status) → end ≡ search_status asked → IsCheckedSearch words b.folder.held asked end
    checked_left holds end is_end = checked words files asked asks b.folder.held (subst (λ x. Told x b.folder.held (HoldsSearch asked)) told holds) end is_end

  each : (P : AskedSearch → Type 0) → ((files : List ℕ → Option (List ℕ)) → a.folder.held ≡ Some files → (asked : AskedSearch) → AsksForSearch words files asked → P asked) → EachSearch words a.folder.held P
  each P to = by_held a.folder.held refl
    where
      by_held : (held : Option (List ℕ → Option (List ℕ))) → a.folder.held ≡ held → EachSearch words held P
      by_held None e = tt
      by_held (Some files) e = to files e

  pub the_search : EachSearch words a.folder.held (λ asked. IsFinal status → IsSearched asked status a b)
  the_search = each (λ asked. IsFinal status → IsSearched asked status a b) (λ files told asked asks f. let d = did_search files told asked asks f in is_searched asked (own words files asked asks) a b status d.0 d.1)

  pub search_best : EachSearch words a.folder.held (λ asked. IsBestSearch asked status)
  search_best = each (λ asked. IsBestSearch asked status) (λ files told asked asks good. is_best asked (askable words files asked asks) asks.aims status (did_search files told asked asks (subst IsFinal (sym good) tt)).0 good)

  pub search_refuted : EachSearch words a.folder.held (λ asked. IsFinal status → IsRefutedSearch asked status)
  search_refuted = each (λ asked. IsFinal status → IsRefutedSearch asked status) (λ files told asked asks f. is_refuted asked (askable words files asked asks) asks.aims status (did_search files told asked asks f).0)

  pub search_unfinished : EachSearch words a.folder.held (λ asked. IsFinal status → IsUnfinishedSearch asked status)
  search_unfinished = each (λ asked. IsFinal status → IsUnfinishedSearch asked status) (λ files told asked asks f. is_unfinished asked (askable words files asked asks) asks.aims status (did_search files told asked asks f).0)

  pub search_bounded : EachSearch words a.folder.held (λ asked. IsFinal status → IsBoundedSearch asked status)
  search_bounded = each (λ asked. IsFinal status → IsBoundedSearch asked status) (λ files told asked asks f. is_bounded asked (askable words files asked asks) asks.aims status (did_search files told asked asks f).0)

  pub search_ordered : EachSearch words a.folder.held (λ asked. SearchOrdered asked a b)
  search_ordered = each (λ asked. SearchOrdered asked a b) in_order

  pub search_checked : EachSearch words a.folder.held (λ asked. IsCheckedSearch words b.folder.held asked status)
  search_checked = each (λ asked. IsCheckedSearch words b.folder.held asked status) (λ files told asked asks.
      let at = λ (f : IsFinal status). let d = did_search files told asked asks f in checked_left files told asked asks (is_searched asked (own words files asked asks) a b status d.0 d.1).files status d.0 in
      record { refuted = λ no. (at (subst IsFinal (sym no) tt)).refuted no; best = λ good. (at (subst IsFinal (sym good) tt)).best good })

  pub search_answered : EachSearch words a.folder.held (λ asked. IsCheckedBest words asked a b)
  search_answered = each (λ asked. IsCheckedBest words asked a b) (λ files told asked asks.
      Told-weaker (λ before after. length before + length (puts_of_first asked (round_count asked)) < length after → Told a.folder.held b.folder.held (HoldsSearch asked))
      (λ before after. length before + length (puts_of_first asked (round_count asked)) < length after → IsCheckedSearch words b.folder.held asked (search_status asked))
      (λ before after whole long. checked_left files told asked asks (whole long) (search_status asked) refl)
      a.out.written b.out.written (answer_stands asked (own words files asked asks) a b (in_order files told asked asks)))

  pub search_satisfies : EachSearch words a.folder.held (λ asked. IsSatisfyingSearch words a.folder.held asked status)
  search_satisfies = each (λ asked. IsSatisfyingSearch words a.folder.held asked status) (λ files told asked asks. subst (λ held. IsSatisfyingSearch words held asked status) (sym told) (satisfying words files asked asks status))
