-- What an answer of a line means beyond its report.
use Rattle.std.specs.Prelude.{◌≡◌, ◌≢◌, ◌↔◌, Bool, ℕ, ℤ, neg_ℤ, List, ◌++◌, Option, IfSome}
use Rattle.dcsp_outside.specs.Outside.{Told, bytes_of}
use Rattle.dcsp_defs.specs.declared.entry.Entry.{Entry}
use Rattle.dcsp_rule.specs.Problems.{Contents, csp_of}
use Rattle.ngd_check.specs.Entries.{DoRefute}
use Rattle.abt_optimum.specs.Best.{HasNoBetter}
use Rattle.rup_check.specs.Verdicts.{IsVerdict}
use Rattle.rup_check.specs.declared.check.Rup.{Rup}
use Rattle.abt_input.specs.Inputs.{IsModelOf, IsFormulaOf, HasClauses}
use Rattle.dcsp_script.specs.Scripts.{World}
use Rattle.dcsp_script.specs.declared.status.Status.{Status}
use Rattle.dcsp_script.specs.declared.status.Status.TheVariants.{Good, No}
use Rattle.line_check.specs.Taking.{Taking, taking_of}
use Rattle.line_check.specs.Checks.{HasEntries, IsRefutedBy}
use Rattle.line_replay.specs.Recorded.{HoldsRecord}
use Rattle.line_replay.specs.Settings.{Settings}
use Rattle.line_cnf.specs.Satisfying.{clauses_of}
use Rattle.line_cnf.specs.CnfRuns.{cnf_run, cnf_text}
use Rattle.line_cnf.specs.RupPromise.{rup_text, HoldsRefuted, TellsExactly}
use Rattle.line_cnf.specs.CnfHeadline.{HoldsCnfRun, HoldsProof}
use Rattle.line_rewrite.specs.Upgrading.{HoldsUpgrade}
use Rattle.line_rewrite.specs.Trimming.{HoldsCore, CreatesNothing}
use Rattle.line_export.specs.Exporting.{HoldsExport}
use Rattle.dcsp_order.specs.declared.by_rule.OrderRule.{OrderRule}
use Rattle.line_model.specs.OrderHeld.{HoldsOrder}
use Rattle.line_starve.specs.Starving.{HoldsStarved, TellsStarved}
use Rattle.line_story.specs.Stories.{HoldsStory}

-- `check`: a problem is taken of the model, and the log has entries; the status is 0 exactly where these refute the problem, and 1 where they do not
pub record IsCheckAnswer (t : Taking) (model log : List ℕ) (status : Status) : Type 0 where
  pub problem : Contents
  pub taken : t.Is model problem
  pub entries : List Entry
  pub log_is : HasEntries log entries
  pub accepted : (status ≡ Good) ↔ DoRefute (csp_of problem) entries
  pub rejected : (status ≡ No) ↔ (DoRefute (csp_of problem) entries → ⊥)

-- the same of the files under these names, where the folder tells them; the problem is the model's, or where a bound is given, the one with better values alone
abbrev pub AnswersCheck : Option ℤ → Option (List ℕ → Option (List ℕ)) → List ℕ → List ℕ → Status → Type 0
AnswersCheck better files model log status = IfSome files (λ f. IsCheckAnswer (taking_of better) (bytes_of (f model)) (bytes_of (f log)) status)

-- `rup`: the status is 0 exactly where the proof is accepted, and then the formula cannot be satisfied
pub record IsRupAnswer (old : Option (List ℕ → Option (List ℕ))) (cnf proof : List ℕ) (status : Status) : Type 0 where
  pub exact : TellsExactly old cnf proof status
  pub refutes : status ≡ Good → HoldsRefuted old cnf

-- Where the folder tells the formula and the proof, both are read, and this is the verdict on them, its line was put.
abbrev pub TellsVerdict : (cnf proof : List ℕ) → World → World → Type 0
TellsVerdict cnf proof old new =
    IfSome old.folder.held (λ f. (problem : Contents) (clauses : List (List ℤ)) (verdict : Rup) → IsFormulaOf (bytes_of (f cnf)) problem → HasClauses (bytes_of (f proof)) clauses → IsVerdict neg_ℤ (clauses_of problem) clauses verdict
    → Told old.out.written new.out.written (λ before now. now ≡ before ++ rup_text verdict))

-- `rup`, with what was put
pub record IsProved (cnf proof : List ℕ) (old new : World) (status : Status) : Type 0 where
  pub answer : IsRupAnswer old.folder.held cnf proof status
  pub tells : TellsVerdict cnf proof old new

-- `cnf`: the literals that were printed satisfy the formula, the proof that was written is accepted, and it is the run's
pub record IsCnfAnswer (old now : Option (List ℕ → Option (List ℕ))) (cnf proof : List ℕ) (seed : ℕ) (status : Status) : Type 0 where
  pub means : HoldsCnfRun old cnf seed status
  pub writes : HoldsProof cnf proof seed status old now

-- Where the folder tells the formula, and it is read, the end of its run was put.
abbrev pub TellsCnf : (cnf : List ℕ) (seed : ℕ) → World → World → Type 0
TellsCnf cnf seed old new =
    IfSome old.folder.held (λ f. (problem : Contents) → IsFormulaOf (bytes_of (f cnf)) problem → Told old.out.written new.out.written (λ before now. now ≡ before ++ cnf_text problem (cnf_run problem seed)))

-- `cnf`, with what was put
pub record IsFormulaRun (cnf proof : List ℕ) (seed : ℕ) (old new : World) (status : Status) : Type 0 where
  pub answer : IsCnfAnswer old.folder.held new.folder.held cnf proof seed status
  pub tells : TellsCnf cnf seed old new

-- `core`: with status 0 the log was trimmed and its core told, with status 1 nothing was created
pub record IsCoreAnswer (better : Option ℤ) (model log trimmed : List ℕ) (old new : World) (status : Status) : Type 0 where
  pub trims : status ≡ Good → HoldsCore (taking_of better) model log trimmed old new
  pub rejects : status ≡ No → CreatesNothing old new

-- `export`: with status 0 formula and proof were written and told, with status 1 nothing was created
pub record IsExportAnswer (model log cnf proof : List ℕ) (told : Bool) (better : Option ℤ) (old new : World) (status : Status) : Type 0 where
  pub exports : status ≡ Good → HoldsExport (taking_of better) model log cnf proof told old new
  pub rejects : status ≡ No → CreatesNothing old new

-- `starve`: the choices of the run, which is one under the order, were written, and the line that was put tells how it ended
pub record IsStarvedAnswer (model : List ℕ) (from to : ℕ) (file : List ℕ) (order_file : Option (List ℕ)) (old new : World) : Type 0 where
  pub writes : HoldsStarved model from to file order_file old.folder.held new.folder.held
  pub tells : TellsStarved model from to order_file old.folder.held old.out.written new.out.written

-- no solution of the model's problem, where the folder tells it, has a better value than this at what the problem aims at
abbrev pub HoldsNoBetter : Option (List ℕ → Option (List ℕ)) → List ℕ → ℤ → Type 0
HoldsNoBetter files model bound = IfSome files (λ f. (problem : Contents) → IsModelOf (bytes_of (f model)) problem → HasNoBetter problem bound)

-- ---- what an answer of each line means, with the outside before and after, and its status

-- a verified log refutes what is taken of the model
abbrev pub means_check : List ℕ → Option ℤ → World → World → Status → Type 0
means_check model better old new status = status ≡ Good → IsRefutedBy (taking_of better) old.folder.held model

-- the record of the run, or of the first round, was written whole
abbrev pub means_solve : (model log : List ℕ) (settings : Settings) → World → World → Status → Type 0
means_solve model log settings old new status = HoldsRecord model log settings old.folder.held new.folder.held

abbrev pub means_upgrade : (log new_log : List ℕ) → World → World → Status → Type 0
means_upgrade log new_log old new status = HoldsUpgrade log new_log old.folder.held new.folder.held

abbrev pub means_core : (model log trimmed : List ℕ) (better : Option ℤ) → World → World → Status → Type 0
means_core model log trimmed better old new status = IsCoreAnswer better model log trimmed old new status

-- under two names
abbrev pub means_export : (model log cnf proof : List ℕ) (told : Bool) (better : Option ℤ) → World → World → Status → Type 0
means_export model log cnf proof told better old new status = cnf ≢ proof → IsExportAnswer model log cnf proof told better old new status

abbrev pub means_order : (model : List ℕ) (rule : OrderRule) (file : List ℕ) → World → World → Status → Type 0
means_order model rule file old new status = HoldsOrder model rule file old.folder.held new.folder.held

abbrev pub means_starve : (model : List ℕ) (from to : ℕ) (file : List ℕ) (order_file : Option (List ℕ)) → World → World → Status → Type 0
means_starve model from to file order_file old new status = IsStarvedAnswer model from to file order_file old new

-- the run under the schedule's choices was told
abbrev pub means_story : (model schedule file : List ℕ) (order_file : Option (List ℕ)) → World → World → Status → Type 0
means_story model schedule file order_file old new status = HoldsStory model order_file schedule file old.folder.held new.folder.held

abbrev pub means_rup : (cnf proof : List ℕ) → World → World → Status → Type 0
means_rup cnf proof old new status = IsRupAnswer old.folder.held cnf proof status

abbrev pub means_cnf : (cnf proof : List ℕ) (seed : ℕ) → World → World → Status → Type 0
means_cnf cnf proof seed old new status = IsCnfAnswer old.folder.held new.folder.held cnf proof seed status
