-- What is found of a log that was read in pieces.
use Rattle.std.proofs.Common.{◌≡◌, ℕ, List, Result, Ok, Err, sym, ap, subst, ◌∙◌}
use Rattle.std.specs.Prelude.{IsErr, IsErrAnd}
use Rattle.dcsp_outside.specs.declared.folder.Piece.{Piece}
use Rattle.dcsp_outside.specs.Outside.{Place, SameCounts, Rose}
use Rattle.dcsp_script.specs.declared.stop.Stop.{Stop}
use Rattle.dcsp_script.specs.declared.stop.Stop.TheVariants as stops
use Rattle.dcsp_rule.specs.Problems.{Contents, csp_of}
use Rattle.ngd_check.specs.declared.Finding.{Finding}
use Rattle.ngd_check.specs.Entries.{steps_of}
use Rattle.ngd_log.proofs.GoodEntries.{good_lines}
use Rattle.abt_input.specs.declared.error.CommandError.{CommandError}
use Rattle.abt_input.specs.Errors.{stop_error}
use Rattle.abt_input.specs.Kinds.{FileKind, ReadsAs}
use Rattle.abt_input.specs.Files.{HasRead}
use Rattle.abt_input.proofs.OtherKinds.{stopped_read}
use Rattle.dcsp_defs.specs.declared.Step.{Step}
use Rattle.dcsp_defs.specs.declared.entry.Entry.{Entry}
use Rattle.ngd_log.specs.EntryReading.{good_entries}
use Rattle.ngd_check.specs.Findings.{IsFindingOf}
use Rattle.ngd_check.specs.Progress.{right_steps}
use Rattle.line_check.specs.Checks.{log_for}
use Rattle.line_check.specs.LogChecks.{WasStopped, UnlessFaulted, kept_log}

unless_faulted : {P : Type 0} (stop : Stop) → UnlessFaulted {T = Piece} (Err stop) P → stop ≡ stops.Memory → P
unless_faulted stops.Memory h e = h
unless_faulted stops.Fault h e = absurd (let f = e in cc)

-- a check of the pieces that was stopped
pub stopped_check : (kind : FileKind) (name : List ℕ) (p q : Place) (stop : Stop) (r : Result kind.Value CommandError) → IsErr r × IsErrAnd r (λ y. y ≡ stop_error stop) → WasStopped p.held p.handed q.handed name → q.held ≡ p.held → q.created ≡ p.created
    → UnlessFaulted {T = Piece} (Err stop) (SameCounts p q) → (stop ≡ stops.Fault → Rose (p.reads name) (q.reads name)) → HasRead kind name p q r
stopped_check kind name p q stop r is bytes held created counts fault = stopped_read kind name p q stop r is bytes held created (unless_faulted stop counts) fault

-- the steps that were kept are those of the entries that were found
pub found_kept : (p : Contents) (log : List ℕ) (finding : Finding) (steps : List Step) → ReadsAs (log_for p) log (Ok finding) → (IsFindingOf (csp_of p) (good_entries log) finding → steps ≡ right_steps finding (steps_of (good_entries log))) → ReadsAs (kept_log p) log (Ok (record { finding = finding; steps = steps }))
found_kept p log finding steps found kept =
    let same = (good_lines log).log found.entries found.log_is.reads in
    record {
      entries = found.entries;
      log_is = found.log_is;
      found = found.found;
      steps = kept (subst (λ (es : List Entry). IsFindingOf (csp_of p) es finding) (sym same) found.found) ∙ ap (λ (es : List Entry). right_steps finding (steps_of es)) same;
    }
