-- What a row of clauses says.
use Rattle.std.proofs.Common.{◌≡◌, ℕ, zero, suc, ◌+◌, List, [], ◌∷◌, ◌++◌, map, refl, sym, ap, ◌∙◌, append_assoc, append-nil, arith}
use Rattle.std.specs.Prelude.{ℤ, pos, negsuc}
use Rattle.std.specs.Option.{option_map}
use Rattle.std.proofs.lemmas.List.Concat.{flat_map-cons}
use Rattle.std.proofs.lemmas.Grind.{flat_map-append}
use Rattle.dcsp_defs.specs.Csp.{Nogood}
use Rattle.dcsp_defs.specs.declared.Step.{Step}
use Rattle.cnf_front.specs.Clauses.{literal_against, clause_of}
use Rattle.abt_defs.specs.Runs as runs
use Rattle.line_cnf.specs.Satisfying.{step_clause}
use Rattle.line_cnf.specs.ClauseRows.{ended, steps_row, clauses_behind, clauses_in, clause_writes}
use Rattle.line_cnf.specs.CnfRuns.{clause_write, refutation_at}
use Rattle.line_cnf.specs.CnfOutcomes.{kept_at}

-- ---- a row is read as it was made

-- a literal is one more of its clause
pub goes_on : (literals row : List ℤ) (z : ℤ) → (z ≡ pos 0 → ⊥) → clauses_behind literals (z ∷ row) ≡ clauses_behind (literals ++ z ∷ []) row
unfolding clauses_behind
goes_on literals row (pos zero) other = absurd (other refl)
goes_on literals row (pos (suc n)) other = refl
goes_on literals row (negsuc n) other = refl

-- 0 ends its clause
pub ends_clause : (literals row : List ℤ) (z : ℤ) → z ≡ pos 0 → clauses_behind literals (z ∷ row) ≡ literals ∷ clauses_in row
unfolding clauses_behind
ends_clause literals row (pos zero) e = refl
ends_clause literals row (pos (suc n)) e = absurd cc
ends_clause literals row (negsuc n) e = absurd cc

-- no clause is left in an empty row
pub none_behind : (literals : List ℤ) → clauses_behind literals [] ≡ []
unfolding clauses_behind
none_behind literals = refl

no_end : (x : ℕ) (v : ℤ) → literal_against x v ≡ pos 0 → ⊥
no_end x (pos zero) e = let next : x + 1 ≡ suc x = omega arith in absurd cc
no_end x (pos (suc n)) e = absurd cc
no_end x (negsuc n) e = absurd cc

clause_read : (pairs : Nogood) (literals row : List ℤ) → clauses_behind literals (ended (clause_of pairs) ++ row) ≡ (literals ++ clause_of pairs) ∷ clauses_in row
clause_read [] literals row = ends_clause literals row (pos 0) refl ∙ ap (λ l. l ∷ clauses_in row) (sym (append-nil literals))
clause_read (y ∷ ys) literals row =
    let z = literal_against y.var y.value in
    goes_on literals (ended (clause_of ys) ++ row) z (no_end y.var y.value) ∙ clause_read ys (literals ++ z ∷ []) row
    ∙ ap (λ l. l ∷ clauses_in row) (append_assoc literals (z ∷ []) (clause_of ys))

steps_read : (steps : List Step) → clauses_in (steps_row steps) ≡ map step_clause steps
steps_read [] = none_behind []
steps_read (s ∷ steps) =
    ap clauses_in (flat_map-cons (λ (t : Step). ended (step_clause t)) s steps) ∙ clause_read s.nogood [] (steps_row steps) ∙ ap (λ l. step_clause s ∷ l) (steps_read steps)

steps_written : (name : List ℕ) (steps : List Step) → clause_writes name (map step_clause steps) ≡ map (clause_write name) steps
steps_written name [] = refl
steps_written name (s ∷ steps) = ap (λ l. clause_write name s ∷ l) (steps_written name steps)

-- the lines of a row of steps are those of the steps
pub row_written : (name : List ℕ) (steps : List Step) → clause_writes name (clauses_in (steps_row steps)) ≡ map (clause_write name) steps
row_written name steps = ap (clause_writes name) (steps_read steps) ∙ steps_written name steps

-- ---- a row grows

-- by more steps
pub row_both : (steps more : List Step) → steps_row (steps ++ more) ≡ steps_row steps ++ steps_row more
row_both steps more = flat_map-append (λ (t : Step). ended (step_clause t)) steps more

-- the row of one step
pub row_one : (s : Step) → steps_row (s ∷ []) ≡ ended (step_clause s)
row_one s = flat_map-cons (λ (t : Step). ended (step_clause t)) s [] ∙ append-nil (ended (step_clause s))

-- ---- what is kept of a run

-- it is the row of its steps, where they are a refutation
pub kept_is : (end : runs.End) (steps : List Step) → kept_at end (steps_row steps) ≡ option_map steps_row (refutation_at end steps)
kept_is runs.Refuted steps = refl
kept_is runs.Solved steps = refl
kept_is runs.Capped steps = refl
kept_is runs.Spent steps = refl
