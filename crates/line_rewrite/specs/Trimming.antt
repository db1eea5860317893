-- What the core of a log means to a user.
use Rattle.std.specs.Prelude.{◌≡◌, ◌≢◌, ℕ, List, ◌++◌, length, Option, Some, IfSome}
use Rattle.dcsp_defs.specs.Csp.{HasNoSolution}
use Rattle.dcsp_defs.specs.declared.Step.{Step}
use Rattle.dcsp_defs.specs.Derivation.{IsRefutation}
use Rattle.dcsp_outside.specs.Outside.{Told, bytes_of}
use Rattle.dcsp_rule.specs.Problems.{Contents, csp_of}
use Rattle.dcsp_script.specs.Scripts.{World}
use Rattle.dcsp_defs.specs.declared.entry.Entry.{Entry}
use Rattle.ngd_log.specs.Logs.{log_text}
use Rattle.ngd_log.specs.EntryTexts.{IsLogOfEntries}
use Rattle.ngd_check.specs.declared.Finding.TheVariants.{Verified}
use Rattle.ngd_check.specs.Findings.{IsFindingOf}
use Rattle.ngd_check.specs.Entries.{steps_of}
use Rattle.ngd_rewrite.specs.declared.cores.Core.{Core}
use Rattle.ngd_rewrite.specs.Cores.{limited}
use Rattle.abt_input.specs.Inputs as inputs
use Rattle.line_check.specs.Checks.{HasEntries}
use Rattle.line_check.specs.Taking.{Taking}
use Rattle.line_check.specs.Verifying.{IsVerifiedBy}
use Rattle.line_rewrite.specs.CorePromise.{core_text, IsCoreOf}

-- The core of a log's steps, which refute the problem.
pub record IsCore (problem : Contents) (steps : List Step) (core : Core) : Type 0 where
  pub is : IsCoreOf steps core
  -- the trimmed steps refute the problem too
  pub refutes : IsRefutation (csp_of problem) core.steps
  -- they have a log, and checking it finds so
  pub log : inputs.IsTextOf (log_text core.steps) core.steps
  pub verified : (entries : List Entry) → IsLogOfEntries (log_text core.steps) entries → IsFindingOf (csp_of problem) entries Verified
  -- the problem has no solution even if limited to the rules of the core
  pub unsolvable : HasNoSolution (limited (csp_of problem) core.rules)

-- the trimmed log is there, whole, and nothing else changed
pub record WritesTrimmed (core : Core) (trimmed_name : List ℕ) (files now : List ℕ → Option (List ℕ)) : Type 0 where
  pub written : now trimmed_name ≡ Some (log_text core.steps)
  pub others : (name : List ℕ) → name ≢ trimmed_name → now name ≡ files name

-- The steps of a log that refutes the problem, which is taken so, were trimmed, and their core was told.
pub record HasTrimmed (t : Taking) (problem : Contents) (steps : List Step) (model_name trimmed_name : List ℕ) (old new : World) : Type 0 where
  pub core : Core
  pub is : IsCore problem steps core
  pub files : Told old.folder.held new.folder.held (WritesTrimmed core trimmed_name)
  -- whatever `check` then leaves of the model, taken so, and the trimmed log, it verified the log or was stopped
  pub checks : model_name ≢ trimmed_name → IfSome new.folder.held (λ now. IsVerifiedBy t now model_name trimmed_name)
  -- the rules of the core, and how many rules and steps are kept
  pub told : Told old.out.written new.out.written (λ before now. now ≡ before ++ core_text (length problem.rules) (length steps) core)

-- Where the folder tells its files, the steps of the log were trimmed for the problem that is taken of the model.
abbrev pub HoldsCore : Taking → List ℕ → List ℕ → List ℕ → World → World → Type 0
HoldsCore t model_name log_name trimmed_name old new =
    IfSome old.folder.held (λ files. (problem : Contents) (entries : List Entry) → t.Is (bytes_of (files model_name)) problem → HasEntries (bytes_of (files log_name)) entries → HasTrimmed t problem (steps_of entries) model_name trimmed_name old new)

-- nothing was written under any name
pub record CreatesNothing (old new : World) : Type 0 where
  pub held : new.folder.held ≡ old.folder.held
  pub created : new.folder.created ≡ old.folder.created
