-- What an exported refutation means to a user.
use Rattle.std.specs.Prelude.{◌≡◌, ◌≢◌, ◌<◌, ◌^◌, ◌⊎◌, ℕ, neg_ℤ, true, Bool, List, length, ◌++◌, Option, Some, IfSome, slice_get, Contains}
use Rattle.std.specs.List.{concat}
use Rattle.dcsp_defs.specs.Csp.{Csp, Constraint, PartialAssignment, Assignment, count}
use Rattle.dcsp_defs.specs.declared.Step.{Step}
use Rattle.dcsp_defs.specs.declared.entry.Entry.{Entry}
use Rattle.dcsp_outside.specs.Outside.{Stream, Told, bytes_of}
use Rattle.dcsp_rule.specs.Problems.{Contents, csp_of, value_count}
use Rattle.dcsp_script.specs.Scripts.{World}
use Rattle.rup_check.specs.Literals.{is_true}
use Rattle.rup_check.specs.ProofText.{proof_text}
use Rattle.rup_check.specs.Propagation.{IsAccepted, Satisfies}
use Rattle.ngd_check.specs.Entries.{steps_of}
use Rattle.dcsp_script.specs.declared.status.Status.{Status}
use Rattle.dcsp_script.specs.Runs.{Ran}
use Rattle.line_check.specs.Checks.{HasEntries}
use Rattle.line_check.specs.Taking.{Taking}
use Rattle.line_check.specs.Verifying.{VerifiesUnlessStopped}
use Rattle.line_cnf.specs.RupPromise.{rup_promise}
use Rattle.line_export.specs.Atoms.{is_true_atom, HasValues}
use Rattle.line_export.specs.Clauses.{Clause, value_clause, exclusion, formula, proof}
use Rattle.line_export.specs.Texts.{cnf_lines, counts_text}

-- ---- the formula

-- the clause is true where the variables have these values
abbrev pub IsTrueOf : Csp → Assignment → Clause → Type 0
IsTrueOf p values clause = Satisfies (is_true (is_true_atom p values)) clause

-- The clause says that a variable has a value of its domain, as in every assignment of values of the domains.
pub record IsOfVariable (p : Csp) (clause : Clause) : Type 0 where
  pub variable : ℕ
  pub within : variable < count p
  pub is : clause ≡ value_clause p variable
  pub holds : (values : Assignment) → HasValues p values → IsTrueOf p values clause

-- The clause excludes values of a constraint's scope. Each assignment of values of the domains that satisfies the constraint satisfies it.
pub record IsOfConstraint (p : Csp) (clause : Clause) : Type 0 where
  pub number : ℕ
  pub constraint : Constraint
  pub there : slice_get p.constraints number ≡ Some constraint
  pub known : PartialAssignment
  pub is : clause ≡ exclusion p known constraint.scope
  pub follows : (values : Assignment) → HasValues p values → constraint.test values ≡ true → IsTrueOf p values clause

-- each clause is a variable's or a constraint's
abbrev pub SaysProblem : Csp → List Clause → Type 0
SaysProblem p clauses = (clause : Clause) → Contains clauses clause → IsOfVariable p clause ⊎ IsOfConstraint p clause

-- ---- the files

-- the text of the formula
abbrev pub cnf_text : Contents → Bool → List Clause → List ℕ
cnf_text p wanted clauses = concat (cnf_lines p wanted clauses)

-- the formula and the proof are there, whole, and nothing else changed
pub record WritesExport (p : Contents) (steps : List Step) (wanted : Bool) (cnf_name proof_name : List ℕ) (files now : List ℕ → Option (List ℕ)) : Type 0 where
  pub cnf_written : now cnf_name ≡ Some (cnf_text p wanted (formula p steps))
  pub proof_written : now proof_name ≡ Some (proof_text (proof p steps))
  pub others : (name : List ℕ) → name ≢ cnf_name → name ≢ proof_name → now name ≡ files name

-- whatever `rup` leaves of the formula and the proof, over a folder that holds these files, it verified the proof or was stopped
abbrev pub IsProofVerified : (List ℕ → Option (List ℕ)) → List ℕ → List ℕ → Type 0
IsProofVerified files cnf_name proof_name = (old new : World) (err now : Stream) (status : Status) → old.folder.held ≡ Some files → Ran (rup_promise cnf_name proof_name) old new err now status → VerifiesUnlessStopped status

-- ---- the line

-- Formula and proof of a log's steps, which refute the problem, were written and told.
pub record HasExported (p : Contents) (steps : List Step) (wanted : Bool) (cnf_name proof_name : List ℕ) (old new : World) : Type 0 where
  -- the formula says no more than the problem
  pub says : SaysProblem (csp_of p) (formula p steps)
  -- the proof is accepted for it: each clause is one conflict by unit propagation, and the last is empty
  pub accepted : IsAccepted neg_ℤ (formula p steps) (proof p steps)
  pub files : Told old.folder.held new.folder.held (WritesExport p steps wanted cnf_name proof_name)
  -- `rup` verifies it, where the steps are fewer than 2^32, which are the most that it reads
  pub checks : length steps < 2 ^ 32 → IfSome new.folder.held (λ now. IsProofVerified now cnf_name proof_name)
  pub told : Told old.out.written new.out.written (λ before now. now ≡ before ++ counts_text (value_count p) (length (formula p steps)) (length steps))

-- Where the folder tells its files, the steps of the log were exported for the problem that is taken of the model.
abbrev pub HoldsExport : Taking → List ℕ → List ℕ → List ℕ → List ℕ → Bool → World → World → Type 0
HoldsExport t model_name log_name cnf_name proof_name wanted old new =
    IfSome old.folder.held (λ files. (p : Contents) (entries : List Entry) → t.Is (bytes_of (files model_name)) p → HasEntries (bytes_of (files log_name)) entries → HasExported p (steps_of entries) wanted cnf_name proof_name old new)
