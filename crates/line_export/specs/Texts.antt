-- What is written of a formula and a proof.
use Rattle.std.specs.Prelude.{ℕ, ◌+◌, suc, ℤ, Bool, List, [], ◌∷◌, ◌++◌, map, flat_map, length, codes, decimal, if◌then◌else◌}
use Rattle.std.specs.Fmt.{signed_decimal}
use Rattle.dcsp_defs.specs.Words.{below}
use Rattle.dcsp_defs.specs.Csp.{Csp, domain, count}
use Rattle.dcsp_defs.specs.declared.Step.{Step}
use Rattle.dcsp_rule.specs.Problems.{Contents, csp_of, value_count}
use Rattle.dcsp_script.specs.Scripts.{Write, Put}
use Rattle.rup_check.specs.ProofText.{clause_line}
use Rattle.line_rewrite.specs.UpgradePromise.{file_script}
use Rattle.line_export.specs.Atoms.{atoms_before}
use Rattle.line_export.specs.Clauses.{Clause, formula, proof}

-- the comment that tells what an atom says
abbrev pub atom_line : Csp → ℕ → ℤ → List ℕ
atom_line p k value = codes "c v" ++ decimal (k + 1) ++ codes "=" ++ signed_decimal value ++ codes " is " ++ decimal (suc (atoms_before p k value)) ++ codes "\n"

-- those of a variable's atoms
abbrev pub variable_lines : Csp → ℕ → List (List ℕ)
variable_lines p k = map (atom_line p k) (domain p k)

-- those of all atoms, in rising order, if they are wanted
abbrev pub atom_lines : Csp → Bool → List (List ℕ)
atom_lines p wanted = if wanted then flat_map (variable_lines p) (below (count p)) else []

-- the line that tells how many atoms and clauses there are
abbrev pub header_line : ℕ → ℕ → List ℕ
header_line atoms clauses = codes "p cnf " ++ decimal atoms ++ codes " " ++ decimal clauses ++ codes "\n"

-- the lines of a formula
abbrev pub cnf_lines : Contents → Bool → List Clause → List (List ℕ)
cnf_lines p wanted clauses = atom_lines (csp_of p) wanted ++ header_line (value_count p) (length clauses) ∷ map clause_line clauses

-- what is told: how many atoms, clauses and steps there are
abbrev pub counts_text : ℕ → ℕ → ℕ → List ℕ
counts_text atoms clauses steps = codes "% variables " ++ decimal atoms ++ codes "\n% clauses " ++ decimal clauses ++ codes "\n% steps " ++ decimal steps ++ codes "\n"

-- the formula is written, and then the proof, line by line, and then the counts are put
abbrev pub export_script : List ℕ → List ℕ → Bool → Contents → List Step → List Write
export_script cnf_name proof_name wanted p steps =
    file_script cnf_name (cnf_lines p wanted (formula p steps)) ++ file_script proof_name (map clause_line (proof p steps)) ++ Put (counts_text (value_count p) (length (formula p steps)) (length steps)) ∷ []
