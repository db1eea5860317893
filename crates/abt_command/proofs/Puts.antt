-- What lines of words put on `out`, read off their reports.
use Rattle.std.proofs.Common.{◌≡◌, ℕ, List, [], ◌∷◌, ◌++◌, map, Option, Some, None, refl, ap, ◌∙◌, subst, inr, append-nil}
use Rattle.std.specs.Prelude.{IfSome}
use Rattle.dcsp_outside.specs.Outside.{Stream, Told}
use Rattle.dcsp_outside.proofs.Changes.{Told-weaker}
use Rattle.dcsp_defs.specs.declared.Step.{Step}
use Rattle.dcsp_script.specs.Scripts.{Put, World, put_by, PutAfter}
use Rattle.dcsp_script.specs.Promises.{Report, answered, inputs_of}
use Rattle.dcsp_script.specs.Statuses.{IsFinal}
use Rattle.dcsp_script.specs.Runs.{Ran}
use Rattle.dcsp_script.specs.declared.status.Status.{Status}
use Rattle.dcsp_script.specs.declared.status.Status.TheVariants.{Good}
use Rattle.dcsp_script.proofs.Following.{report_did}
use Rattle.ngd_log.specs.declared.standing.Version.TheVariants.{Two}
use Rattle.ngd_log.specs.EntryTexts.{text_lines}
use Rattle.ngd_rewrite.specs.Upgrade.{upgraded}
use Rattle.line_rewrite.specs.UpgradePromise.{upgrade_script, upgrade_text}
use Rattle.line_rewrite.specs.Upgrading.{TellsUpgrade}
use Rattle.line_rewrite.proofs.CoreFiles.{put_last}
use Rattle.line_replay.specs.Endings.{end_status}
use Rattle.line_cnf.specs.CnfRuns.{clause_write, cnf_run, cnf_script, cnf_text, proof_script, refutation_at}
use Rattle.line_cnf.specs.RupPromise.{rup_report, rup_text}
use Rattle.abt_command.specs.Lines.{Line, Cnf, Rup, Upgrade, IsLine, promise_of}
use Rattle.abt_command.specs.Meanings.{TellsCnf, TellsVerdict}
use Rattle.abt_command.proofs.Lines.{lawful, one_line}

-- ---- scripts that put their answer last

cnf_puts : (name : List ℕ) (steps : List Step) (text : List ℕ) → put_by (map (clause_write name) steps ++ Put text ∷ []) ≡ text
cnf_puts name [] text = append-nil text
cnf_puts name (s ∷ steps) text = cnf_puts name steps text

proof_puts : (name : List ℕ) (steps : Option (List Step)) (text : List ℕ) → put_by (proof_script name steps ++ Put text ∷ []) ≡ text
proof_puts name None text = append-nil text
proof_puts name (Some steps) text = cnf_puts name steps text

-- ---- reports

module _ (words : List (List ℕ)) (line : Line) (is : IsLine words line) (a b : World) (err now : Stream) (status : Status) (line_ran : Ran (promise_of line) a b err now status) where
  -- with a final status all that the line's report puts was put
  report_puts : (l : Line) → IsLine words l → IsFinal status → (files : List ℕ → Option (List ℕ)) → a.folder.held ≡ Some files → (report : Report) → (promise_of l).Reports (inputs_of files (promise_of l).fetched) report
      → (text : List ℕ) → put_by report.script ≡ text → Told a.out.written b.out.written (λ before after. after ≡ before ++ text)
  report_puts l h f files told report reports text puts =
      let ran = subst (λ x. Ran (promise_of x) a b err now status) (one_line words line l is h) line_ran in
      let d = report_did (promise_of l) (lawful l) a b err now files told report reports status ran f in
      Told-weaker (PutAfter report.script) (λ before after. after ≡ before ++ text) (λ before after e. e ∙ ap (λ t. before ++ t) puts) a.out.written b.out.written d.1.after.out

  each : (P : (List ℕ → Option (List ℕ)) → Type 0) → ((files : List ℕ → Option (List ℕ)) → a.folder.held ≡ Some files → P files) → IfSome a.folder.held P
  each P to = by_held a.folder.held refl
    where
      by_held : (held : Option (List ℕ → Option (List ℕ))) → a.folder.held ≡ held → IfSome held P
      by_held None e = tt
      by_held (Some files) e = to files e

  pub tells_verdict : (cnf proof : List ℕ) → IsLine words (Rup cnf proof) → IsFinal status → TellsVerdict cnf proof a b
  tells_verdict cnf proof h f = each _ (λ files told problem clauses verdict formula proved found.
      report_puts (Rup cnf proof) h f files told (rup_report verdict) (inr (problem, formula, inr (clauses, proved, (verdict, found, refl)))) (rup_text verdict) (append-nil (rup_text verdict)))

  pub tells_cnf : (cnf proof : List ℕ) (seed : ℕ) → IsLine words (Cnf cnf proof seed) → IsFinal status → TellsCnf cnf seed a b
  tells_cnf cnf proof seed h f = each _ (λ files told problem formula.
      let run = cnf_run problem seed in
      report_puts (Cnf cnf proof seed) h f files told (answered (end_status run.end) (cnf_script problem proof run)) (inr (problem, formula, refl)) (cnf_text problem run) (proof_puts proof (refutation_at run.end run.net.steps) (cnf_text problem run)))

  pub tells_upgrade : (log new : List ℕ) → IsLine words (Upgrade log new) → IsFinal status → TellsUpgrade log a b
  tells_upgrade log new h f = each _ (λ files told steps is_log.
      report_puts (Upgrade log new) h f files told (answered Good (upgrade_script new steps)) (inr (steps, is_log, refl)) (upgrade_text steps) (put_last new (text_lines Two (upgraded steps)) (upgrade_text steps)))
