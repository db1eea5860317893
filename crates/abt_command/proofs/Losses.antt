-- What a run over the medium that the words ask for left.
use Rattle.std.proofs.Common.{◌≡◌, ◌≢◌, ◌<◌, ℕ, map, List, [], ◌∷◌, ◌++◌, length, Option, Some, None, refl, sym, ap, ◌∙◌, subst, inr}
use Rattle.std.specs.Prelude.{IfSome}
use Rattle.dcsp_outside.specs.Outside.{Stream, Told, bytes_of}
use Rattle.dcsp_outside.proofs.Changes.{Told-weaker}
use Rattle.dcsp_script.specs.Scripts.{World, FilesAfter, PutAfter}
use Rattle.dcsp_script.specs.Ways.{Did, DidPartOf}
use Rattle.dcsp_script.specs.Promises.{Report, answered}
use Rattle.dcsp_script.specs.Statuses.{IsFinal}
use Rattle.dcsp_script.specs.Runs.{Ran}
use Rattle.dcsp_script.specs.declared.status.Status.{Status}
use Rattle.dcsp_script.specs.declared.status.Status.TheVariants.{No}
use Rattle.dcsp_script.proofs.Following.{report_part, report_did}
use Rattle.dcsp_rule.specs.Problems.{csp_of}
use Rattle.dcsp_problem.specs.WellFormed.{IsProblem}
use Rattle.dcsp_order.specs.Told.{IsOrderFor}
use Rattle.ngd_log.specs.Logs.{log_text}
use Rattle.ngd_check.specs.Logged.{IsSmall}
use Rattle.abt_input.specs.Inputs.{IsModelOf, IsTextOf}
use Rattle.abt_input.specs.Plans.{PlanReports, order_then}
use Rattle.abt_input.proofs.PlanLaws.{ordered_reports}
use Rattle.law_subjects.proofs.Accepting.{accepted_are_problems}
use Rattle.law_subjects.proofs.MeantWhole.{solutions_satisfy}
use Rattle.line_check.specs.Verifying.{IsVerified}
use Rattle.line_check.proofs.Verifying.{refutation_verified}
use Rattle.line_replay.specs.Endings.{assigned}
use Rattle.line_lossy.specs.Asked.{Asked, asked_script, answer_text, run_steps, run_world, world_values}
use Rattle.line_lossy.specs.LossyPromise.{lossy_plan, lossy_promise, ordered_plan}
use Rattle.line_lossy.specs.Meaning.{HoldsFiles, IsLossyRun}
use Rattle.line_lossy.proofs.Lawful.{lossy_lawful}
use Rattle.line_lossy.proofs.Files.{answers_are_put, answers_come_last, files_are_whole}
use Rattle.line_lossy.proofs.Logs.{log_is_text}
use Rattle.line_lossy.proofs.Meaning.{is_right}
use Rattle.abt_command.specs.Lines.{Line, Lossy, IsLine, IsNoLine, promise_of}
use Rattle.abt_command.specs.AskedLosses.{AsksForLossy, EachLossy, lossy_status, IsCheckedLossy, IsLossyAnswer, IsTrueLossy}
use Rattle.abt_command.proofs.Lines.{SolveNames, one_line, lossy_names, lossy_within}
use Rattle.abt_command.proofs.Runs.{order_of_files}

-- words that are no line ask for no run
pub asks_no_lossy : (words : List (List ℕ)) (held : Option (List ℕ → Option (List ℕ))) (P : (List ℕ → Option (List ℕ)) → List ℕ → Asked → Type 0) → IsNoLine words → EachLossy words held P
asks_no_lossy words None P none = tt
asks_no_lossy words (Some files) P none = λ model asked asks. absurd (none (Lossy model asked.log asked.events asked.seed asked.record_file asks.order_file) asks.line_is)

-- ---- the run that is asked for, whatever comes of it

module _ (words : List (List ℕ)) (files : List ℕ → Option (List ℕ)) (model : List ℕ) (asked : Asked) (asks : AsksForLossy words files model asked) where
  within_limits : IsProblem asked.problem
  within_limits = (accepted_are_problems (bytes_of (files model))).within_limits asked.problem asks.model_is.short asks.model_is.reads

  small : IsSmall (csp_of asked.problem)
  small = (accepted_are_problems (bytes_of (files model))).small asked.problem asks.model_is.short asks.model_is.reads

  good_order : IsOrderFor asked.order asked.problem
  good_order = order_of_files files asks.order_file asked.problem asked.order asks.order_is

  names : SolveNames model asked.log asked.record_file
  names = lossy_names words model asked.log asked.events asked.seed asked.record_file asks.order_file asks.line_is

  right : (status : Status) → status ≡ lossy_status asked → IsLossyRun asked status
  right status is = is_right asked within_limits good_order status is

  log_is : (status : Status) (run : IsLossyRun asked status) → status ≡ No → IsTextOf (log_text (run_steps asked)) (run_steps asked)
  log_is status run is_no = log_is_text asked within_limits good_order (lossy_within model asked.log asked.events asked.seed asked.record_file asks.order_file (words, asks.line_is)) small (run.refuted.refutation is_no)

  -- what a check says over a folder that holds the whole run
  checked : (left : Option (List ℕ → Option (List ℕ))) → Told (Some files) left (HoldsFiles asked) → (status : Status) → status ≡ lossy_status asked → IsCheckedLossy files model asked left status
  checked left holds status is = record {
    satisfies = λ good. (solutions_satisfy (bytes_of (files model)) asked.problem asks.model_is.reads (assigned (world_values asked.order asked.problem (run_world asked)))).0 ((right status is).solved.solution good);
    checks = λ is_no. at left holds is_no;
  }
    where
      at : (left : Option (List ℕ → Option (List ℕ))) → Told (Some files) left (HoldsFiles asked) → status ≡ No → IfSome left (λ now. IsVerified now model asked.log)
      at None h is_no = tt
      at (Some now) h is_no =
          let same : now model ≡ files model = h.others model names.log_is_other names.record_is_other in
          refutation_verified now model asked.log asked.problem (run_steps asked) (subst (λ x. IsModelOf (bytes_of x) asked.problem) (sym same) asks.model_is) (subst (λ x. IsTextOf (bytes_of x) (run_steps asked)) (sym h.log) (log_is status (right status is) is_no)) ((right status is).refuted.refutation is_no)

module _ (words : List (List ℕ)) (line : Line) (is : IsLine words line) (a b : World) (err now : Stream) (status : Status) (line_ran : Ran (promise_of line) a b err now status) where
  module _ (files : List ℕ → Option (List ℕ)) (told : a.folder.held ≡ Some files) (model : List ℕ) (asked : Asked) (asks : AsksForLossy words files model asked) where
    line_did : Ran (lossy_promise model asks.order_file asked.log asked.events asked.seed asked.record_file) a b err now status
    line_did = subst (λ x. Ran (promise_of x) a b err now status) (one_line words line (Lossy model asked.log asked.events asked.seed asked.record_file asks.order_file) is asks.line_is) line_ran

    abbrev its_report : Report
    its_report = answered (lossy_status asked) (asked_script asked)

    reports : PlanReports (lossy_plan asked.log asked.events asked.seed asked.record_file asks.order_file) (map (λ name. bytes_of (files name)) (model ∷ order_then asks.order_file [])) its_report
    reports = inr (asked.problem, asks.model_is, ordered_reports files (ordered_plan asked.log asked.events asked.seed asked.record_file asked.problem) asked.problem asks.order_file asked.order [] its_report asks.order_is refl)

    did_lossy : IsFinal status → (status ≡ lossy_status asked) × Did (asked_script asked) a b
    did_lossy f = report_did (lossy_promise model asks.order_file asked.log asked.events asked.seed asked.record_file) (lossy_lawful model asks.order_file asked.log asked.events asked.seed asked.record_file) a b err now files told its_report reports status line_did f

    made_part : DidPartOf (asked_script asked) a b
    made_part = report_part (lossy_promise model asks.order_file asked.log asked.events asked.seed asked.record_file) (lossy_lawful model asks.order_file asked.log asked.events asked.seed asked.record_file) a b err now files told its_report reports status line_did

    own : IfSome asked.record_file (λ k. k ≢ asked.log)
    own = (names words files model asked asks).record_is_own

    checked_left : Told a.folder.held b.folder.held (HoldsFiles asked) → (end : Status) → end ≡ lossy_status asked → IsCheckedLossy files model asked b.folder.held end
    checked_left holds end is_end = checked words files model asked asks b.folder.held (subst (λ x. Told x b.folder.held (HoldsFiles asked)) told holds) end is_end

    answer : IsFinal status → IsLossyAnswer files model asked a b status
    answer f =
        let d = did_lossy f in
        let holds = Told-weaker (FilesAfter (asked_script asked)) (HoldsFiles asked) (λ x y after. files_are_whole asked own x y after) a.folder.held b.folder.held d.1.after.files in
        record {
          run = right words files model asked asks status d.0;
          out = Told-weaker (PutAfter (asked_script asked)) (λ before after. after ≡ before ++ answer_text asked) (λ before after e. e ∙ ap (λ t. before ++ t) (answers_are_put asked)) a.out.written b.out.written d.1.after.out;
          files_hold = holds;
          checked = checked_left holds status d.0;
        }

    is_true : IsTrueLossy files model asked a b
    is_true =
        let whole = answers_come_last asked own a b made_part in
        record {
          run = right words files model asked asks (lossy_status asked) refl;
          whole = whole;
          checked = Told-weaker (λ before after. length before < length after → Told a.folder.held b.folder.held (HoldsFiles asked)) (λ before after. length before < length after → IsCheckedLossy files model asked b.folder.held (lossy_status asked))
              (λ before after holds long. checked_left (holds long) (lossy_status asked) refl) a.out.written b.out.written whole;
        }

  each : (P : (List ℕ → Option (List ℕ)) → List ℕ → Asked → Type 0) → ((files : List ℕ → Option (List ℕ)) → a.folder.held ≡ Some files → (model : List ℕ) (asked : Asked) → AsksForLossy words files model asked → P files model asked) → EachLossy words a.folder.held P
  each P to = by_held a.folder.held refl
    where
      by_held : (held : Option (List ℕ → Option (List ℕ))) → a.folder.held ≡ held → EachLossy words held P
      by_held None e = tt
      by_held (Some files) e = to files e

  pub lossy_answers : EachLossy words a.folder.held (λ files model asked. IsFinal status → IsLossyAnswer files model asked a b status)
  lossy_answers = each (λ files model asked. IsFinal status → IsLossyAnswer files model asked a b status) answer

  pub lossy_is_true : EachLossy words a.folder.held (λ files model asked. IsTrueLossy files model asked a b)
  lossy_is_true = each (λ files model asked. IsTrueLossy files model asked a b) is_true
