-- What `upgrade LOG NEW` promises.
use Rattle.std.specs.Prelude.{ℕ, List, [], ◌∷◌, ◌++◌, map, length, codes, decimal}
use Rattle.dcsp_defs.specs.declared.Step.{Step}
use Rattle.dcsp_script.specs.Scripts.{Write, Create, Append, Put}
use Rattle.ngd_log.specs.declared.standing.Version.TheVariants.{Two}
use Rattle.ngd_log.specs.EntryTexts.{text_lines}
use Rattle.ngd_rewrite.specs.Upgrade.{upgraded, deleted_count}
use Rattle.dcsp_script.specs.declared.status.Status.TheVariants.{Good}
use Rattle.dcsp_script.specs.Promises.{Promise}
use Rattle.abt_input.specs.Kinds.{a_log}
use Rattle.abt_input.specs.Plans.{Plan, Answer, Read, promise_by}

-- each line goes last under the name, by itself
abbrev pub appends : List ℕ → List (List ℕ) → List Write
appends name lines = map (λ (line : List ℕ). Append name line) lines

-- the name is created, and each line goes last under it, by itself
abbrev pub file_script : List ℕ → List (List ℕ) → List Write
file_script name lines = Create name ∷ appends name lines

-- the line that tells how many steps there are, and how many of them are deleted
abbrev pub counts_text : ℕ → ℕ → List ℕ
counts_text steps deleted = codes "upgraded steps " ++ decimal steps ++ codes " deleted " ++ decimal deleted ++ codes "\n"

-- what tells of the entries of these steps
abbrev pub upgrade_text : List Step → List ℕ
upgrade_text steps = counts_text (length steps) (deleted_count (upgraded steps))

-- the entries of the steps are written in version 2, line by line, and then their counts are put
abbrev pub upgrade_script : List ℕ → List Step → List Write
upgrade_script new_name steps = file_script new_name (text_lines Two (upgraded steps)) ++ Put (upgrade_text steps) ∷ []

-- the log is read, and its steps are written with their deletions, and counted
abbrev pub upgrade_plan : List ℕ → Plan
upgrade_plan new = Read a_log (λ steps. Answer Good (upgrade_script new steps))

-- the line's promise
abbrev pub upgrade_promise : List ℕ → List ℕ → Promise
upgrade_promise log new = promise_by (log ∷ []) (new ∷ []) (upgrade_plan new)
