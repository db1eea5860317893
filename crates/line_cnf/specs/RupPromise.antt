-- What `rup CNF PROOF` promises.
use Rattle.std.specs.Prelude.{◌≡◌, ◌↔◌, ℕ, ℤ, neg_ℤ, List, [], ◌∷◌, ◌++◌, codes, decimal, Option, IfSome}
use Rattle.dcsp_outside.specs.Outside.{bytes_of}
use Rattle.dcsp_defs.specs.Csp.{HasNoSolution}
use Rattle.dcsp_rule.specs.Problems.{Contents, csp_of}
use Rattle.dcsp_script.specs.Scripts.{Put}
use Rattle.rup_check.specs.Literals.{IsUnsatisfiable}
use Rattle.rup_check.specs.Propagation.{IsAccepted}
use Rattle.rup_check.specs.Verdicts.{IsVerdict}
use Rattle.rup_check.specs.declared.check.Rup.{Rup}
use Rattle.rup_check.specs.declared.check.Rup.TheVariants.{Verified, BadClause, NotEmpty}
use Rattle.dcsp_script.specs.declared.status.Status.{Status}
use Rattle.dcsp_script.specs.declared.status.Status.TheVariants.{Good, No}
use Rattle.dcsp_script.specs.Promises.{Report, Promise, answered}
use Rattle.abt_input.specs.Inputs.{IsFormulaOf, HasClauses}
use Rattle.abt_input.specs.Kinds.{a_formula, a_proof}
use Rattle.abt_input.specs.Plans.{Plan, Answer, Read, Find, PlanReports, promise_by}
use Rattle.line_cnf.specs.Satisfying.{clauses_of}

-- the status of an answer
abbrev pub rup_status : Rup → Status
rup_status Verified = Good
rup_status (BadClause number) = No
rup_status NotEmpty = No

-- the line that tells it
abbrev pub rup_text : Rup → List ℕ
rup_text Verified = codes "verified\n"
rup_text (BadClause number) = codes "rejected clause " ++ decimal number ++ codes "\n"
rup_text NotEmpty = codes "rejected not empty\n"

-- what is reported of it
abbrev pub rup_report : Rup → Report
rup_report answer = answered (rup_status answer) (Put (rup_text answer) ∷ [])

-- the formula is read, and then the proof, and the answer on its clauses is told
abbrev pub rup_plan : Plan
rup_plan = Read a_formula (λ problem. Read a_proof (λ clauses. Find Rup (IsVerdict neg_ℤ (clauses_of problem) clauses) (λ answer. Answer (rup_status answer) (Put (rup_text answer) ∷ []))))

-- its report of the bytes of a formula and a proof
abbrev pub RupReport : List ℕ → List ℕ → Report → Type 0
RupReport cnf proof report = PlanReports rup_plan (cnf ∷ proof ∷ []) report

-- the line's promise
abbrev pub rup_promise : List ℕ → List ℕ → Promise
rup_promise cnf proof = promise_by (cnf ∷ proof ∷ []) [] rup_plan

-- no assignment satisfies the clauses of the problem, and it has no solution
pub record IsRefuted (problem : Contents) : Type 0 where
  pub unsatisfiable : IsUnsatisfiable (clauses_of problem)
  pub no_solution : HasNoSolution (csp_of problem)

-- Where the folder tells the formula under the name, it cannot be satisfied.
abbrev pub HoldsRefuted : Option (List ℕ → Option (List ℕ)) → List ℕ → Type 0
HoldsRefuted files cnf_name = IfSome files (λ f. (problem : Contents) → IsFormulaOf (bytes_of (f cnf_name)) problem → IsRefuted problem)

-- the status is 0 exactly where the proof is accepted, and 1 exactly where it is not
pub record IsExact (problem : Contents) (clauses : List (List ℤ)) (status : Status) : Type 0 where
  pub accepted : (status ≡ Good) ↔ IsAccepted neg_ℤ (clauses_of problem) clauses
  pub rejected : (status ≡ No) ↔ (IsAccepted neg_ℤ (clauses_of problem) clauses → ⊥)

-- Where the folder tells the formula and the proof, and both are read, the status is exact.
abbrev pub TellsExactly : Option (List ℕ → Option (List ℕ)) → List ℕ → List ℕ → Status → Type 0
TellsExactly files cnf_name proof_name status =
    IfSome files (λ f. (problem : Contents) (clauses : List (List ℤ)) → IsFormulaOf (bytes_of (f cnf_name)) problem → HasClauses (bytes_of (f proof_name)) clauses → IsExact problem clauses status)
