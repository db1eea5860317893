-- What `check MODEL LOG [--better N]` promises.
use Rattle.std.specs.Prelude.{ℕ, List, [], ◌∷◌}
use Rattle.ngd_check.specs.declared.Finding.{Finding}
use Rattle.dcsp_script.specs.Scripts.{Put}
use Rattle.dcsp_script.specs.Promises.{Promise}
use Rattle.abt_input.specs.Plans.{Plan, Answer, Read, promise_by}
use Rattle.line_check.specs.Taking.{Taking, model_by}
use Rattle.line_check.specs.Checks.{log_for, finding_status, finding_text}

-- a finding is put on `out`
abbrev pub finding_plan : Finding → Plan
finding_plan finding = Answer (finding_status finding) (Put (finding_text finding) ∷ [])

-- the model is read, and then the log, and what is found of it for the problem that is taken of the model is told
abbrev pub check_plan : Taking → Plan
check_plan t = Read (model_by t) (λ problem. Read (log_for problem) (λ finding. finding_plan finding))

-- the line's promise
abbrev pub check_promise : Taking → List ℕ → List ℕ → Promise
check_promise t model log = promise_by (model ∷ log ∷ []) [] (check_plan t)
