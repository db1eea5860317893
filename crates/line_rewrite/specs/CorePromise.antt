-- What `core MODEL LOG TRIMMED [--better N]` promises.
use Rattle.std.specs.Prelude.{◌≡◌, ◌↔◌, ℕ, ◌+◌, true, List, [], ◌∷◌, ◌++◌, flat_map, length, codes, decimal}
use Rattle.dcsp_defs.specs.declared.Step.{Step}
use Rattle.dcsp_defs.specs.Words.{In, IsRising}
use Rattle.dcsp_rule.specs.Problems.{Contents}
use Rattle.dcsp_script.specs.Scripts.{Write, Put}
use Rattle.ngd_log.specs.Logs.{log_lines}
use Rattle.ngd_check.specs.declared.Finding.{Finding}
use Rattle.ngd_check.specs.declared.Finding.TheVariants.{Verified, BadStep, BadDeletion, NotEmpty}
use Rattle.ngd_rewrite.specs.declared.cores.Core.{Core}
use Rattle.ngd_rewrite.specs.Needed.{is_cited, IsTrimmed}
use Rattle.dcsp_script.specs.declared.status.Status.TheVariants.{Good}
use Rattle.dcsp_script.specs.Promises.{Promise}
use Rattle.abt_input.specs.Plans.{Plan, Answer, Read, Find, promise_by}
use Rattle.line_check.specs.Taking.{Taking, model_by}
use Rattle.line_check.specs.LogChecks.{kept_log}
use Rattle.line_check.specs.CheckReports.{finding_plan}
use Rattle.line_rewrite.specs.UpgradePromise.{file_script}

-- the line that names a rule: its number, which counts from 0 here and from 1 there
abbrev pub rule_line : ℕ → List ℕ
rule_line rule = codes "c" ++ decimal (rule + 1) ++ codes "\n"

-- the line that tells how many of all the things of this kind are kept
abbrev pub count_line : List ℕ → ℕ → ℕ → List ℕ
count_line kind kept total = codes "% " ++ kind ++ codes " " ++ decimal kept ++ codes " of " ++ decimal total ++ codes "\n"

-- what tells of a core, of a problem with so many rules and of a log with so many steps
abbrev pub core_text : ℕ → ℕ → Core → List ℕ
core_text rules steps core =
    flat_map rule_line core.rules ++ count_line (codes "rules") (length core.rules) rules ++ count_line (codes "steps") (length core.steps) steps

-- the trimmed steps are written in version 1, line by line, and then the core is told
abbrev pub core_script : List ℕ → Contents → List Step → Core → List Write
core_script trimmed_name problem steps core =
    file_script trimmed_name (log_lines core.steps) ++ Put (core_text (length problem.rules) (length steps) core) ∷ []

-- the core of the steps
pub record IsCoreOf (steps : List Step) (core : Core) : Type 0 where
  -- its steps are those that the last one needs, renumbered from 1
  pub trimmed : IsTrimmed steps core.steps
  -- its rules are those that these cite, rising
  pub rising : IsRising core.rules
  pub cited : (rule : ℕ) → In rule core.rules ↔ (is_cited core.steps rule ≡ true)

-- of a log that refutes the problem its steps are trimmed, and their core is told; of another one it is told what it is found to be
abbrev pub trimming_plan : List ℕ → Contents → List Step → Finding → Plan
trimming_plan trimmed problem steps Verified = Find Core (IsCoreOf steps) (λ core. Answer Good (core_script trimmed problem steps core))
trimming_plan trimmed problem steps (BadStep step) = finding_plan (BadStep step)
trimming_plan trimmed problem steps (BadDeletion after) = finding_plan (BadDeletion after)
trimming_plan trimmed problem steps NotEmpty = finding_plan NotEmpty

-- the model is read, and then the log, as `check` reads them
abbrev pub core_plan : Taking → List ℕ → Plan
core_plan t trimmed = Read (model_by t) (λ problem. Read (kept_log problem) (λ checked. trimming_plan trimmed problem checked.steps checked.finding))

-- the line's promise
abbrev pub core_promise : Taking → List ℕ → List ℕ → List ℕ → Promise
core_promise t model log trimmed = promise_by (model ∷ log ∷ []) (trimmed ∷ []) (core_plan t trimmed)
