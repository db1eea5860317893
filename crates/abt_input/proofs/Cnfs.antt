-- What a refused formula or proof is told as.
use Rattle.std.proofs.Common.{◌≡◌, ℕ, ◌≤◌, List, length, Err}
use Rattle.dcsp_rule.specs.Problems.{Contents}
use Rattle.cnf_front.specs.declared.header.CnfError.{CnfError}
use Rattle.cnf_front.specs.declared.header.CnfError.TheVariants as cnf
use Rattle.cnf_front.specs.Formulas.{problem_of, Gives}
use Rattle.dcsp_script.specs.Statuses.{IsRefusal}
use Rattle.abt_input.specs.declared.error.CommandError.{CommandError}
use Rattle.abt_input.specs.declared.error.CommandError.TheVariants.{Fault}
use Rattle.abt_input.specs.declared.clauses_error.ClausesError.{ClausesError}
use Rattle.abt_input.specs.declared.clauses_error.ClausesError.TheVariants.{CnfLong, CnfRefused, CnfLimit, ProofLong, ProofLine}
use Rattle.abt_input.specs.ClausesErrors.{clauses_status}
use Rattle.abt_input.specs.Inputs.{most_cnf}
use Rattle.abt_input.specs.Errors.{cnf_error}
use Rattle.abt_input.specs.Kinds.{ReadsAs, a_formula}

-- each error that is not want of memory is told as it is
pub told_of_cnf : (text : List ℕ) (e : CnfError) → length text ≤ most_cnf → Gives {X = Contents} (λ p. p) (Err e) (problem_of text) → ReadsAs a_formula text (Err (cnf_error e))
told_of_cnf text (cnf.Syntax at) short h = record { short = short; reads = h }
told_of_cnf text (cnf.Limit which count at) short h = record { short = short; reads = h }
told_of_cnf text cnf.Memory short h = tt

-- and none is told as a fault
pub cnf_no_fault : (e : CnfError) (d : CommandError) → d ≡ cnf_error e → d ≡ Fault → ⊥
cnf_no_fault (cnf.Syntax at) d is f = let k = is in let l = f in cc
cnf_no_fault (cnf.Limit which count at) d is f = let k = is in let l = f in cc
cnf_no_fault cnf.Memory d is f = let k = is in let l = f in cc

-- a refused formula or proof is refused input
pub clauses_refuse : (e : ClausesError) → IsRefusal (clauses_status e)
clauses_refuse CnfLong = tt
clauses_refuse (CnfRefused error) = tt
clauses_refuse (CnfLimit which count) = tt
clauses_refuse ProofLong = tt
clauses_refuse (ProofLine number) = tt
