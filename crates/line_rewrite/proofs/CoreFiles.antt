-- What is held and told once a core was written.
use Rattle.std.proofs.Common.{◌≡◌, ℕ, ℤ, ◌≤◌, List, [], ◌∷◌, ◌++◌, length, Option, Some, None, Ok, sym, ap, subst, ◌∙◌, append-nil}
use Rattle.std.specs.Prelude.{◌≢◌, IfSome}
use Rattle.dcsp_defs.specs.Csp.{HasNoSolution}
use Rattle.dcsp_defs.specs.declared.Step.{Step}
use Rattle.dcsp_defs.specs.Derivation.{IsRefutation}
use Rattle.dcsp_outside.specs.Outside.{Place, Stream, Told, bytes_of}
use Rattle.dcsp_rule.specs.Problems.{Contents, csp_of}
use Rattle.dcsp_script.specs.Scripts.{Put, World, outside, put_by, file_after, FilesAfter, PutAfter}
use Rattle.dcsp_script.specs.Ways.{Wrote}
use Rattle.dcsp_script.specs.Texts.{LeavesAlone}
use Rattle.dcsp_script.proofs.After.{file_after-append}
use Rattle.dcsp_script.proofs.Parts.{left_alone}
use Rattle.dcsp_defs.specs.declared.entry.Entry.{Entry}
use Rattle.ngd_log.specs.Logs.{log_lines, log_text, AreWritable}
use Rattle.ngd_log.specs.EntryTexts.{IsLogOfEntries}
use Rattle.ngd_log.proofs.LogLines.{log_text_is}
use Rattle.ngd_log.proofs.EntryLaws.{entries_or_bad_line}
use Rattle.ngd_check.specs.declared.Finding.{Finding}
use Rattle.ngd_check.specs.declared.Finding.TheVariants.{Verified}
use Rattle.ngd_check.specs.Findings.{IsFindingOf}
use Rattle.ngd_check.specs.Entries.{steps_of}
use Rattle.ngd_check.specs.Progress.{right_steps}
use Rattle.ngd_rewrite.specs.declared.cores.Core.{Core}
use Rattle.ngd_rewrite.specs.Cores.{limited}
use Rattle.ngd_rewrite.specs.Needed.{IsTrimmed}
use Rattle.abt_input.specs.Inputs.{most_log}
use Rattle.abt_input.specs.Inputs as inputs
use Rattle.line_check.specs.Checks.{HasEntries}
use Rattle.line_check.specs.Taking.{taking_of}
use Rattle.line_check.specs.Verifying.{IsVerifiedBy}
use Rattle.line_check.proofs.Taken.{settled}
use Rattle.line_check.proofs.Verifying.{refutation_verified_by}
use Rattle.line_check.specs.declared.log_check.Checked.{Checked}
use Rattle.line_check.specs.LogChecks.{IsKeptFor}
use Rattle.dcsp_script.specs.Promises.{IsHeld}
use Rattle.line_rewrite.specs.UpgradePromise.{appends, file_script}
use Rattle.line_rewrite.specs.CorePromise.{core_text, core_script, IsCoreOf}
use Rattle.line_rewrite.specs.Trimming.{IsCore, WritesTrimmed, HasTrimmed, HoldsCore}
use Rattle.line_rewrite.proofs.Files.{whole_file, leaves}
use Rattle.line_rewrite.proofs.Shorter.{trimmed_short}
use Rattle.line_rewrite.proofs.Refuting.{steps_refute, log_writable, is_core}

-- ---- what was found

-- the bytes under the names, where the folder tells them, with what is found of them
pub record IsFoundIn (better : Option ℤ) (files : Option (List ℕ → Option (List ℕ))) (m l : List ℕ) (p : Contents) (checked : Checked) : Type 0 where
  model : List ℕ
  log : List ℕ
  model_held : IsHeld files m model
  log_held : IsHeld files l log
  model_is : (taking_of better).Is model p
  log_is : IsKeptFor p log checked

pub found_in : (better : Option ℤ) (files mid : Option (List ℕ → Option (List ℕ))) (m l : List ℕ) (p : Contents) (checked : Checked) → mid ≡ files → (model : List ℕ) × IsHeld files m model × (taking_of better).Is model p → (log : List ℕ) × IsHeld mid l log × IsKeptFor p log checked → IsFoundIn better files m l p checked
found_in better files mid m l p checked same h k = record { model = h.0; log = k.0; model_held = h.1; log_held = subst (λ f. IsHeld f l k.0) same k.1; model_is = h.2; log_is = k.2 }

module _ (p : Contents) (log : List ℕ) (checked : Checked) (k : IsKeptFor p log checked) where
  -- all steps of a log that is verified are there
  pub all_steps : checked.finding ≡ Verified → checked.steps ≡ steps_of k.entries
  all_steps e = k.steps ∙ ap (λ (x : Finding). right_steps x (steps_of k.entries)) e

  -- the steps of a log that is verified are a refutation
  pub found_refutes : checked.finding ≡ Verified → IsRefutation (csp_of p) checked.steps
  found_refutes e = subst (IsRefutation (csp_of p)) (sym (all_steps e)) (steps_refute (csp_of p) k.entries (subst (λ (x : Finding). IsFindingOf (csp_of p) k.entries x) e k.found))

  pub found_writable : checked.finding ≡ Verified → AreWritable checked.steps
  found_writable e = subst AreWritable (sym (all_steps e)) (log_writable log k.entries k.log_is.reads)

  found_short : checked.finding ≡ Verified → (trimmed : List Step) → IsTrimmed checked.steps trimmed → length (log_text trimmed) ≤ most_log
  found_short e trimmed is = trimmed_short log k.entries trimmed k.log_is (subst (λ (s : List Step). IsTrimmed s trimmed) (all_steps e) is)

-- ---- what was written

module _ (name : List ℕ) (p : Contents) (steps : List Step) (core : Core) where
  core_file : (file : Option (List ℕ)) → file_after (core_script name p steps core) name file ≡ Some (log_text core.steps)
  core_file file =
      file_after-append (file_script name (log_lines core.steps)) (Put (core_text (length p.rules) (length steps) core) ∷ []) name file
      ∙ whole_file name (log_lines core.steps) file ∙ ap Some (sym (log_text_is core.steps))

  core_leaves : (other : List ℕ) → (name ≡ other → ⊥) → LeavesAlone (core_script name p steps core) other
  core_leaves other unlike = (unlike, leaves name other unlike (log_lines core.steps) (Put (core_text (length p.rules) (length steps) core) ∷ []) ((λ u. u), tt))

  writes_trimmed : (files now : List ℕ → Option (List ℕ)) → FilesAfter (core_script name p steps core) files now → WritesTrimmed core name files now
  writes_trimmed files now after = record {
    written = after name ∙ core_file (files name);
    others = λ other unlike. after other ∙ left_alone (core_script name p steps core) other (files other) (core_leaves other (λ e. unlike (sym e)));
  }

  told_trimmed : (files now : Option (List ℕ → Option (List ℕ))) → Told files now (FilesAfter (core_script name p steps core)) → Told files now (WritesTrimmed core name)
  told_trimmed None None t = tt
  told_trimmed None (Some now) t = t
  told_trimmed (Some files) None t = t
  told_trimmed (Some files) (Some now) t = writes_trimmed files now t

pub put_last : (name : List ℕ) (lines : List (List ℕ)) (text : List ℕ) → put_by (appends name lines ++ Put text ∷ []) ≡ text
put_last name [] text = append-nil text
put_last name (line ∷ lines) text = put_last name lines text

told_put : (name : List ℕ) (lines : List (List ℕ)) (text : List ℕ) (before now : Option (List ℕ)) → Told before now (PutAfter (file_script name lines ++ Put text ∷ [])) → Told before now (λ old new. new ≡ old ++ text)
told_put name lines text None None t = tt
told_put name lines text None (Some now) t = t
told_put name lines text (Some before) None t = t
told_put name lines text (Some before) (Some now) t = t ∙ ap (λ (x : List ℕ). before ++ x) (put_last name lines text)

-- ---- what it means

-- the model is as it was, and the trimmed log refutes its problem
check_verifies : (better : Option ℤ) (m l t : List ℕ) (p : Contents) (checked : Checked) (core : Core) (files now : Option (List ℕ → Option (List ℕ))) → IsFoundIn better files m l p checked → IsCore p checked.steps core → Told files now (WritesTrimmed core t) → m ≢ t → IfSome now (λ after. IsVerifiedBy (taking_of better) after m t)
check_verifies better m l t p checked core None None h is told unlike = tt
check_verifies better m l t p checked core None (Some after) h is told unlike = absurd told
check_verifies better m l t p checked core (Some files) None h is told unlike = tt
check_verifies better m l t p checked core (Some files) (Some after) h is told unlike =
    refutation_verified_by better after m t p core.steps
    (subst (λ (x : List ℕ). (taking_of better).Is x p) (h.model_held ∙ ap bytes_of (sym (told.others m unlike))) h.model_is)
    (subst (λ (x : Option (List ℕ)). inputs.IsTextOf (bytes_of x) core.steps) (sym told.written) is.log)
    is.refutes

-- what was done for what was found was done for the model and the log under the names
told_core : (better : Option ℤ) (files : Option (List ℕ → Option (List ℕ))) (m l t : List ℕ) (p : Contents) (checked : Checked) (old new : World) → checked.finding ≡ Verified → IsFoundIn better files m l p checked → HasTrimmed (taking_of better) p checked.steps m t old new
    → IfSome files (λ g. (problem : Contents) (entries : List Entry) → (taking_of better).Is (bytes_of (g m)) problem → HasEntries (bytes_of (g l)) entries → HasTrimmed (taking_of better) problem (steps_of entries) m t old new)
told_core better None m l t p checked old new verified h has = tt
told_core better (Some g) m l t p checked old new verified h has = λ problem entries is_model is_log.
    let k = h.log_is in
    let problems : p ≡ problem = (settled better).one (bytes_of (g m)) p problem (subst (λ (x : List ℕ). (taking_of better).Is x p) h.model_held h.model_is) is_model in
    let lists : k.entries ≡ entries = (entries_or_bad_line (bytes_of (g l))).one_list k.entries entries (subst (λ (x : List ℕ). IsLogOfEntries x k.entries) h.log_held k.log_is.reads) is_log.reads in
    subst (λ (x : Contents). HasTrimmed (taking_of better) x (steps_of entries) m t old new) problems (subst (λ (s : List Step). HasTrimmed (taking_of better) p s m t old new) (all_steps p h.log checked k verified ∙ ap steps_of lists) has)

module _ (better : Option ℤ) (m l t : List ℕ) (a b : Place) (out : Stream) (held : b.held ≡ a.held) (p : Contents) (checked : Checked) (core : Core) where
  pub holds_core : {T : Type 0} (x : T) (w : World) → checked.finding ≡ Verified → IsFoundIn better a.held m l p checked → IsCoreOf checked.steps core → IsRefutation (csp_of p) core.steps → HasNoSolution (limited (csp_of p) core.rules) → Wrote (core_script t p checked.steps core) (outside b out) w (Ok x) → HoldsCore (taking_of better) m l t (outside a out) w
  holds_core x w verified h is refutes none wrote =
      let done = wrote.ended.after in
      let core_is = is_core p checked.steps core (found_writable p h.log checked h.log_is verified) (found_short p h.log checked h.log_is verified core.steps is.trimmed) is refutes none in
      let files_are = told_trimmed t p checked.steps core a.held w.folder.held (subst (λ (x : Option (List ℕ → Option (List ℕ))). Told x w.folder.held (FilesAfter (core_script t p checked.steps core))) held done.files) in
      told_core better a.held m l t p checked (outside a out) w verified h (record {
        core = core;
        is = core_is;
        files = files_are;
        checks = check_verifies better m l t p checked core a.held w.folder.held h core_is files_are;
        told = told_put t (log_lines core.steps) (core_text (length p.rules) (length checked.steps) core) out.written w.out.written done.out;
      })
