-- Why a formula or a proof is refused, and what is said of it.
use Rattle.std.specs.Prelude.{ℕ, List, ◌++◌, decimal, codes}
use Rattle.dcsp_script.specs.declared.status.Status.{Status}
use Rattle.dcsp_script.specs.declared.status.Status.TheVariants as statuses
use Rattle.cnf_front.specs.declared.header.CnfError.{CnfError}
use Rattle.cnf_front.specs.declared.header.CnfError.TheVariants as cnf
use Rattle.abt_input.specs.ModelTexts.{place_text, limit_text, reached_text}
use Rattle.abt_input.specs.declared.clauses_error.ClausesError.{ClausesError}
use Rattle.abt_input.specs.declared.clauses_error.ClausesError.TheVariants.{CnfLong, CnfRefused, CnfLimit, ProofLong, ProofLine}

-- the status of an error
abbrev pub clauses_status : ClausesError → Status
clauses_status CnfLong = statuses.Model
clauses_status (CnfRefused error) = statuses.Model
clauses_status (CnfLimit which count) = statuses.Model
clauses_status ProofLong = statuses.Input
clauses_status (ProofLine number) = statuses.Input

-- the line that tells why a text is no formula
abbrev pub cnf_error_text : CnfError → List ℕ
cnf_error_text (cnf.Syntax at) = codes "abt: cnf: syntax at " ++ place_text at
cnf_error_text (cnf.Limit which count at) = codes "abt: cnf: limit " ++ limit_text which count at
cnf_error_text cnf.Memory = codes "abt: memory\n"

-- the line that says it
abbrev pub clauses_text : ClausesError → List ℕ
clauses_text CnfLong = codes "abt: cnf: too long\n"
clauses_text (CnfRefused error) = cnf_error_text error
clauses_text (CnfLimit which count) = codes "abt: cnf: limit " ++ reached_text which count ++ codes "\n"
clauses_text ProofLong = codes "abt: proof: too long\n"
clauses_text (ProofLine number) = codes "abt: proof: line " ++ decimal number ++ codes "\n"
