-- How great a formula may be.
use Rattle.std.specs.Prelude.{◌≡◌, ℕ, List, [], ◌∷◌, length, sum_by, Option, Some, None, Result, Ok, Err, ⊤}
use Rattle.dcsp_defs.specs.declared.Step.{Step}
use Rattle.dcsp_rule.specs.Problems.{Contents, value_count}
use Rattle.dcsp_common.specs.declared.limits.Which.{Which}
use Rattle.dcsp_common.specs.declared.limits.Which.TheVariants.{Variables, Rules, Terms}
use Rattle.dcsp_problem.specs.Limits.{first_past}
use Rattle.abt_input.specs.declared.error.CommandError.{CommandError}
use Rattle.abt_input.specs.declared.error.CommandError.TheVariants.{Clauses, Memory}
use Rattle.abt_input.specs.declared.clauses_error.ClausesError.TheVariants.{CnfLimit}
use Rattle.line_export.specs.Clauses.{Clause, formula}
use Rattle.line_export.specs.declared.clauses.ClauseSet.{ClauseSet}

-- the first limit of formulas that is passed, with the number that would be reached: of atoms, of clauses, of literals
abbrev pub limit_past : Contents → List Clause → Option (Which × ℕ)
limit_past p clauses = first_past ((Variables, value_count p) ∷ (Rules, length clauses) ∷ (Terms, sum_by length clauses) ∷ [])

-- the error that tells it
abbrev pub too_many : Which → ℕ → CommandError
too_many which count = Clauses (CnfLimit which count)

-- the formula of the steps, which passes no limit; or the first that it passes; or memory ran out
abbrev pub IsFormulaWithin : Contents → List Step → Result ClauseSet CommandError → Type 0
IsFormulaWithin p steps (Ok clauses) = (clauses ≡ formula p steps) × (limit_past p (formula p steps) ≡ None)
IsFormulaWithin p steps (Err (Clauses (CnfLimit which count))) = limit_past p (formula p steps) ≡ Some (which, count)
IsFormulaWithin p steps (Err Memory) = ⊤
IsFormulaWithin p steps (Err error) = ⊥
