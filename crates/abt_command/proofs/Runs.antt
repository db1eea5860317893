-- What a run that the words ask for left, sentence by sentence.
use Rattle.std.proofs.Common.{◌≡◌, ◌+◌, ◌<◌, ◌≤◌, ◌^◌, arith, ℕ, map, List, [], ◌∷◌, ◌++◌, length, Option, Some, None, refl, sym, ap, ◌∙◌, subst, inr, length-append}
use Rattle.std.specs.Prelude.{Bool, IfSome}
use Rattle.dcsp_outside.specs.Outside.{Stream, Told, bytes_of}
use Rattle.dcsp_outside.proofs.Changes.{Told-weaker}
use Rattle.dcsp_script.specs.Scripts.{World}
use Rattle.dcsp_script.specs.Ways.{Did, DidPartOf}
use Rattle.dcsp_defs.specs.Csp.{IsCsp, IsSolution}
use Rattle.dcsp_defs.specs.Derivation.{IsRefutation}
use Rattle.dcsp_rule.specs.Problems.{Contents, csp_of}
use Rattle.dcsp_problem.specs.WellFormed.{IsProblem}
use Rattle.dcsp_order.specs.Told.{ordered, IsOrderFor}
use Rattle.abt_defs.specs.Runs.{Solved}
use Rattle.law_runs.specs.Replay.{Verdicts}
use Rattle.law_runs.proofs.Whole.{verdicts}
use Rattle.law_subjects.proofs.Accepting.{accepted_are_problems}
use Rattle.dcsp_script.specs.declared.status.Status.{Status}
use Rattle.dcsp_script.specs.Statuses.{IsFinal}
use Rattle.dcsp_script.specs.Runs.{Ran}
use Rattle.dcsp_script.proofs.Following.{report_part, report_did}
use Rattle.ngd_log.specs.Logs.{log_text}
use Rattle.abt_session.specs.Order.{told_text}
use Rattle.ngd_check.specs.Logged.{IsSmall}
use Rattle.abt_input.specs.Inputs.{IsModelOf, IsTextOf, IsOrderIn, HasChoices}
use Rattle.abt_input.specs.Plans.{PlanReports, order_then}
use Rattle.abt_input.proofs.PlanLaws.{ordered_reports}
use Rattle.line_check.specs.Verifying.{IsVerified}
use Rattle.line_check.proofs.Verifying.{refutation_verified}
use Rattle.line_replay.specs.Endings.{assigned, final_values, end_status}
use Rattle.line_replay.specs.Asked.{Asked, asked_run, asked_steps, asked_script, run_report, replay, solve}
use Rattle.line_replay.specs.ReplayPromise.{choices_plan, replay_plan, replay_promise}
use Rattle.line_solve.specs.SolvePromise.{solve_promise}
use Rattle.line_replay.specs.Headline.{IsOther, HoldsRun, KeepsOrder, IsRun, IsSolvedRun, IsRefutedRun, IsUnfinishedRun, IsBoundedRun, WritesOrdered}
use Rattle.line_replay.proofs.Lawful.{replay_lawful}
use Rattle.line_solve.proofs.Lawful.{solve_lawful, reports_run}
use Rattle.line_replay.proofs.Headlines.{HasOwnRecord, is_run, part_ordered}
use Rattle.line_replay.proofs.UnderOrder.{ordered_csp}
use Rattle.line_replay.proofs.Verdicts.{solved, refuted, bounded, replay_unfinished, solve_unfinished, refuted_log}
use Rattle.law_subjects.specs.Meaning.{SatisfiesText}
use Rattle.law_subjects.proofs.MeantWhole.{solutions_satisfy}
use Rattle.abt_command.specs.Lines.{Line, Replay, Solve, IsLine, IsNoLine, promise_of}
use Rattle.abt_command.specs.AskedRuns.{AsksFor, replays, solves, EachRun, RunsModel, AskForModel, IsCheckedRun, IsCheckedAnswer, IsSatisfyingRun, IsTrueRun, EachTrueRun}
use Rattle.abt_command.proofs.Lines.{one_line, one_some, solve_names, solve_within, replay_names}

-- words that are no line ask for no run
pub asks_for_none : (words : List (List ℕ)) (held : Option (List ℕ → Option (List ℕ))) (P : Asked → Type 0) → IsNoLine words → EachRun words held P
asks_for_none words None P none = tt
asks_for_none words (Some files) P none = λ asked asks. absurd (so asked asks)
  where
    so : (asked : Asked) → AsksFor words files asked → ⊥
    so asked (replays m s l t o h p mp ord ho cs hc e) = none (Replay m s l t o) h
    so asked (solves m l s h p mp aim ord ho e) = none (Solve m l s) h

-- ---- the run that is asked for, whatever comes of it

-- what its end means
run_law : (asked : Asked) → asked.session.problem ≡ csp_of (ordered asked.session.order asked.problem) → IsProblem asked.problem → IsOrderFor asked.session.order asked.problem → Verdicts asked.session.problem asked.session.most (asked_run asked)
run_law asked same ok good = verdicts asked.session.problem (subst IsCsp (sym same) (ordered_csp asked.session.order asked.problem ok good)) asked.session.most asked.session.choices

-- the order that the folder's files have is one of the problem's variables
pub order_of_files : (files : List ℕ → Option (List ℕ)) (order_file : Option (List ℕ)) (p : Contents) (order : Option (List ℕ)) → IsOrderIn files order_file p order → IsOrderFor order p
order_of_files files order_file p None h = tt
order_of_files files None p (Some order) h = absurd h
order_of_files files (Some name) p (Some order) h = h.reads.is_order

module _ (words : List (List ℕ)) (files : List ℕ → Option (List ℕ)) where
  -- its problem is the model's, under its order
  same_problem : (asked : Asked) → AsksFor words files asked → asked.session.problem ≡ csp_of (ordered asked.session.order asked.problem)
  same_problem asked (replays m s l t o h p mp ord ho cs hc e) = rw e refl
  same_problem asked (solves m l s h p mp aim ord ho e) = rw e refl

  -- which is within the limits, since its text was accepted
  is_problem : (asked : Asked) → AsksFor words files asked → IsProblem asked.problem
  is_problem asked (replays m s l t o h p mp ord ho cs hc e) = rw e ((accepted_are_problems (bytes_of (files m))).within_limits p mp.short mp.reads)
  is_problem asked (solves m l s h p mp aim ord ho e) = rw e ((accepted_are_problems (bytes_of (files m))).within_limits p mp.short mp.reads)

  -- and logs can name all that it has
  small : (asked : Asked) → AsksFor words files asked → IsSmall (csp_of asked.problem)
  small asked (replays m s l t o h p mp ord ho cs hc e) = rw e ((accepted_are_problems (bytes_of (files m))).small p mp.short mp.reads)
  small asked (solves m l s h p mp aim ord ho e) = rw e ((accepted_are_problems (bytes_of (files m))).small p mp.short mp.reads)

  -- and so is its order, one of its variables
  is_order : (asked : Asked) → AsksFor words files asked → IsOrderFor asked.session.order asked.problem
  is_order asked (replays m s l t o h p mp ord ho cs hc e) = rw e (order_of_files files o p ord ho)
  is_order asked (solves m l s h p mp aim ord ho e) = rw e (order_of_files files s.order_file p ord ho)

  -- the model of the run has a name of its own
  own_model : (asked : Asked) → AsksFor words files asked → (model : List ℕ) → AskForModel words model → IsOther asked model × IsModelOf (bytes_of (files model)) asked.problem
  own_model asked (replays m s l t o h p mp ord ho cs hc e) model a =
      let is : m ≡ model = one_some (subst (λ x. RunsModel x model) (one_line words a.line (Replay m s l t o) a.is h) a.runs) in
      rw (e, sym is) ((replay_names words m s l t o h, tt), mp)
  own_model asked (solves m l s h p mp aim ord ho e) model a =
      let is : m ≡ model = one_some (subst (λ x. RunsModel x model) (one_line words a.line (Solve m l s) a.is h) a.runs) in
      rw (e, sym is) (((solve_names words m l s h).log_is_other, (solve_names words m l s h).record_is_other), mp)

  module _ (asked : Asked) (asks : AsksFor words files asked) where
    solves_whole : (asked_run asked).end ≡ Solved → IsSolution (csp_of asked.problem) (assigned (final_values asked.session.order asked.problem (asked_run asked)))
    solves_whole e = solved asked (same_problem asked asks) (is_problem asked asks) (is_order asked asks) (end_status (asked_run asked).end) refl (ap end_status e)

    satisfies_whole : (asked_run asked).end ≡ Solved → (model : List ℕ) → AskForModel words model → SatisfiesText (bytes_of (files model)) (assigned (final_values asked.session.order asked.problem (asked_run asked)))
    satisfies_whole e model runs = (solutions_satisfy (bytes_of (files model)) asked.problem (own_model asked asks model runs).1.reads (assigned (final_values asked.session.order asked.problem (asked_run asked)))).0 (solves_whole e)

    is_true : IsTrueRun words files asked
    is_true = record {
      solved = solves_whole;
      satisfies = satisfies_whole;
      refuted = λ e. refuted asked (same_problem asked asks) (is_problem asked asks) (is_order asked asks) (end_status (asked_run asked).end) refl (ap end_status e);
      bounded = (run_law asked (same_problem asked asks) (is_problem asked asks) (is_order asked asks)).bound;
      undecided = λ e. (run_law asked (same_problem asked asks) (is_problem asked asks) (is_order asked asks)).unfinished e;
    }

pub runs_are_true : (words : List (List ℕ)) (held : Option (List ℕ → Option (List ℕ))) → EachTrueRun words held
runs_are_true words None = tt
runs_are_true words (Some files) = λ asked asks. is_true words files asked asks

module _ (words : List (List ℕ)) (line : Line) (is : IsLine words line) (a b : World) (err now : Stream) (status : Status) (line_ran : Ran (promise_of line) a b err now status) where
  as_line : (l : Line) → IsLine words l → Ran (promise_of l) a b err now status
  as_line l h = subst (λ x. Ran (promise_of x) a b err now status) (one_line words line l is h) line_ran

  module _ (files : List ℕ → Option (List ℕ)) (told : a.folder.held ≡ Some files) where
    -- what a replay reports
    replay_reports : (m s l : List ℕ) (t : Bool) (o : Option (List ℕ)) (p : Contents) → IsModelOf (bytes_of (files m)) p → (ord : Option (List ℕ)) → IsOrderIn files o p ord → (cs : List ℕ) → HasChoices (bytes_of (files s)) cs
        → PlanReports (replay_plan l t o) (map (λ name. bytes_of (files name)) (m ∷ order_then o (s ∷ []))) (run_report (replay ord p cs l t))
    replay_reports m s l t o p mp ord ho cs hc = inr (p, mp, ordered_reports files (choices_plan l t p) p o ord (s ∷ []) (run_report (replay ord p cs l t)) ho (inr (cs, hc, refl)))

    -- with a final status the run's whole script was made, and with any a part of it
    did_run : (asked : Asked) → AsksFor words files asked → IsFinal status → (status ≡ end_status (asked_run asked).end) × Did (asked_script asked) a b
    did_run asked (replays m s l t o h p mp ord ho cs hc e) f = subst (λ x. (status ≡ end_status (asked_run x).end) × Did (asked_script x) a b) (sym e) (report_did (replay_promise m s l t o) (replay_lawful m s l t o) a b err now files told (run_report (replay ord p cs l t)) (replay_reports m s l t o p mp ord ho cs hc) status (as_line (Replay m s l t o) h) f)
    did_run asked (solves m l s h p mp aim ord ho e) f = subst (λ x. (status ≡ end_status (asked_run x).end) × Did (asked_script x) a b) (sym e) (report_did (solve_promise m l s) (solve_lawful m l s) a b err now files told (run_report (solve ord p l s)) (reports_run p l s files m mp ord ho aim) status (as_line (Solve m l s) h) f)

    made_part : (asked : Asked) → AsksFor words files asked → DidPartOf (asked_script asked) a b
    made_part asked (replays m s l t o h p mp ord ho cs hc e) = subst (λ x. DidPartOf (asked_script x) a b) (sym e) (report_part (replay_promise m s l t o) (replay_lawful m s l t o) a b err now files told (run_report (replay ord p cs l t)) (replay_reports m s l t o p mp ord ho cs hc) status (as_line (Replay m s l t o) h))
    made_part asked (solves m l s h p mp aim ord ho e) = subst (λ x. DidPartOf (asked_script x) a b) (sym e) (report_part (solve_promise m l s) (solve_lawful m l s) a b err now files told (run_report (solve ord p l s)) (reports_run p l s files m mp ord ho aim) status (as_line (Solve m l s) h))

    own : (asked : Asked) → AsksFor words files asked → HasOwnRecord asked
    own asked (replays m s l t o h p mp ord ho cs hc e) = rw e tt
    own asked (solves m l s h p mp aim ord ho e) = rw e (solve_names words m l s h).record_is_own

    at_most : (asked : Asked) → AsksFor words files asked → asked.session.most ≤ 2 ^ 40
    at_most asked (replays m s l t o h p mp ord ho cs hc e) = rw e (omega arith)
    at_most asked (solves m l s h p mp aim ord ho e) = rw e (solve_within m l s (words, h))

    at_limit : (asked : Asked) → AsksFor words files asked → status ≡ end_status (asked_run asked).end → IsUnfinishedRun asked status
    at_limit asked (replays m s l t o h p mp ord ho cs hc e) = rw e (λ i. replay_unfinished ord p (bytes_of (files s)) cs l t status hc i)
    at_limit asked (solves m l s h p mp aim ord ho e) = rw e (λ i. solve_unfinished ord p l s status i)

    -- a log that was written whole is verified, where it refutes the model's problem
    verifies : (asked : Asked) → AsksFor words files asked → IsRefutation (csp_of asked.problem) (asked_steps asked) → (model : List ℕ) → AskForModel words model
        → Told a.folder.held b.folder.held (HoldsRun asked) → IfSome b.folder.held (λ left. IsVerified left model asked.session.log)
    verifies asked asks refutes model runs holds = at b.folder.held (subst (λ x. Told x b.folder.held (HoldsRun asked)) told holds)
      where
        log : IsTextOf (log_text (asked_steps asked)) (asked_steps asked)
        log = refuted_log asked (same_problem words files asked asks) (at_most asked asks) (is_problem words files asked asks) (is_order words files asked asks) (small words files asked asks) refutes

        at : (held : Option (List ℕ → Option (List ℕ))) → Told (Some files) held (HoldsRun asked) → IfSome held (λ left. IsVerified left model asked.session.log)
        at None h = tt
        at (Some left) h =
            let mine = own_model words files asked asks model runs in
            let same : left model ≡ files model = h.others model mine.0 in
            refutation_verified left model asked.session.log asked.problem (asked_steps asked) (subst (λ x. IsModelOf (bytes_of x) asked.problem) (sym same) mine.1) (subst (λ x. IsTextOf (bytes_of x) (asked_steps asked)) (sym h.log) log) refutes

  each : (P : Asked → Type 0) → ((files : List ℕ → Option (List ℕ)) → a.folder.held ≡ Some files → (asked : Asked) → AsksFor words files asked → P asked) → EachRun words a.folder.held P
  each P to = by_held a.folder.held refl
    where
      by_held : (held : Option (List ℕ → Option (List ℕ))) → a.folder.held ≡ held → EachRun words held P
      by_held None e = tt
      by_held (Some files) e = to files e

  pub the_run : EachRun words a.folder.held (λ asked. IsFinal status → IsRun asked status a b)
  the_run = each (λ asked. IsFinal status → IsRun asked status a b) (λ files told asked asks f. let d = did_run files told asked asks f in is_run asked (own files told asked asks) a b status d.0 d.1)

  pub run_solved : EachRun words a.folder.held (λ asked. IsSolvedRun asked status)
  run_solved = each (λ asked. IsSolvedRun asked status) (λ files told asked asks good.
      let f = subst IsFinal (sym good) tt in
      let i = (did_run files told asked asks f).0 in
      solved asked (same_problem words files asked asks) (is_problem words files asked asks) (is_order words files asked asks) status i good)

  pub run_refuted : EachRun words a.folder.held (λ asked. IsRefutedRun asked status)
  run_refuted = each (λ asked. IsRefutedRun asked status) (λ files told asked asks answer.
      let f = subst IsFinal (sym answer) tt in
      let i = (did_run files told asked asks f).0 in
      refuted asked (same_problem words files asked asks) (is_problem words files asked asks) (is_order words files asked asks) status i answer)

  pub run_unfinished : EachRun words a.folder.held (λ asked. IsFinal status → IsUnfinishedRun asked status)
  run_unfinished = each (λ asked. IsFinal status → IsUnfinishedRun asked status) (λ files told asked asks f. at_limit files told asked asks (did_run files told asked asks f).0)

  pub run_bounded : EachRun words a.folder.held (λ asked. IsFinal status → IsBoundedRun asked status)
  run_bounded = each (λ asked. IsFinal status → IsBoundedRun asked status) (λ files told asked asks f.
      let i = (did_run files told asked asks f).0 in
      bounded asked (same_problem words files asked asks) (is_problem words files asked asks) (is_order words files asked asks) status i (at_limit files told asked asks i))

  pub run_ordered : EachRun words a.folder.held (λ asked. WritesOrdered asked a b)
  run_ordered = each (λ asked. WritesOrdered asked a b) (λ files told asked asks. part_ordered asked (own files told asked asks) a b (made_part files told asked asks))

  pub run_checked : EachRun words a.folder.held (λ asked. IsCheckedRun words b.folder.held asked status)
  run_checked = each (λ asked. IsCheckedRun words b.folder.held asked status) (λ files told asked asks answer.
      let d = did_run files told asked asks (subst IsFinal (sym answer) tt) in
      let refutes = refuted asked (same_problem words files asked asks) (is_problem words files asked asks) (is_order words files asked asks) status d.0 answer in
      λ model runs. verifies files told asked asks refutes model runs (is_run asked (own files told asked asks) a b status d.0 d.1).files)

  pub run_answered : EachRun words a.folder.held (λ asked. IsCheckedAnswer words asked a b)
  run_answered = each (λ asked. IsCheckedAnswer words asked a b) (λ files told asked asks.
      let end = end_status (asked_run asked).end in
      let order = part_ordered asked (own files told asked asks) a b (made_part files told asked asks) in
      Told-weaker (λ before after. after ≡ before ++ order.gained) (λ before after. length before + length (told_text asked.session) < length after → IsCheckedRun words b.folder.held asked end) (λ before after grows long refuted_so.
      let size = ap length grows ∙ length-append before order.gained in
      let past : length (told_text asked.session) < length order.gained = omega (arith, size, long) in
      let holds = Told-weaker (KeepsOrder asked order.names order.gained) (HoldsRun asked) (λ x y keeps. keeps.answer_last past) a.folder.held b.folder.held order.files in
      let refutes = refuted asked (same_problem words files asked asks) (is_problem words files asked asks) (is_order words files asked asks) end refl refuted_so in
      λ model runs. verifies files told asked asks refutes model runs holds) a.out.written b.out.written order.out)

  pub run_satisfies : EachRun words a.folder.held (λ asked. IsSatisfyingRun words a.folder.held asked status)
  run_satisfies = each (λ asked. IsSatisfyingRun words a.folder.held asked status) (λ files told asked asks good model runs.
      let f = subst IsFinal (sym good) tt in
      let i = (did_run files told asked asks f).0 in
      let solves = solved asked (same_problem words files asked asks) (is_problem words files asked asks) (is_order words files asked asks) status i good in
      let mine = own_model words files asked asks model runs in
      subst (λ held. IfSome held (λ now. SatisfiesText (bytes_of (now model)) (assigned (final_values asked.session.order asked.problem (asked_run asked))))) (sym told) ((solutions_satisfy (bytes_of (files model)) asked.problem mine.1.reads (assigned (final_values asked.session.order asked.problem (asked_run asked)))).0 solves))
