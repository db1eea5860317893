-- Clauses in one row of numbers: the literals of each, and 0 behind them.
use Rattle.std.specs.Prelude.{ℕ, zero, ℤ, pos, List, [], ◌∷◌, ◌++◌, map, flat_map}
use Rattle.dcsp_defs.specs.declared.Step.{Step}
use Rattle.dcsp_script.specs.Scripts.{Write, Append}
use Rattle.rup_check.specs.ProofText.{clause_line}
use Rattle.line_cnf.specs.Satisfying.{step_clause}

-- a clause in a row
abbrev pub ended : List ℤ → List ℤ
ended clause = clause ++ pos 0 ∷ []

-- the row of the clauses of these steps
abbrev pub steps_row : List Step → List ℤ
steps_row steps = flat_map (λ (s : Step). ended (step_clause s)) steps

-- the clauses of a row that goes on behind these literals of its first clause
unfoldable pub clauses_behind : List ℤ → List ℤ → List (List ℤ)
clauses_behind literals [] = []
clauses_behind literals (pos zero ∷ row) = literals ∷ clauses_behind [] row
clauses_behind literals (z ∷ row) = clauses_behind (literals ++ z ∷ []) row

-- the clauses of a row
abbrev pub clauses_in : List ℤ → List (List ℤ)
clauses_in row = clauses_behind [] row

-- the line of each of these clauses goes last under the name
abbrev pub clause_writes : List ℕ → List (List ℤ) → List Write
clause_writes name clauses = map (λ (clause : List ℤ). Append name (clause_line clause)) clauses
