-- What is written of what a formula's run gave.
use Rattle.std.specs.Prelude.{◌≡◌, List, [], ◌++◌, ℕ, ℤ, Option, Some, None, All}
use Rattle.std.specs.Option.{option_map}
use Rattle.dcsp_defs.specs.declared.Step.{Step}
use Rattle.dcsp_rule.specs.Problems.{Contents, csp_of}
use Rattle.cnf_front.specs.Clauses.{IsBinary}
use Rattle.abt_defs.specs.Runs as runs
use Rattle.abt_session.specs.Running.{IsOutcome}
use Rattle.abt_defs.specs.declared.end.End.{End}
use Rattle.abt_defs.specs.declared.end.End.TheVariants.{Solved, Refuted, Spent, Capped}
use Rattle.abt_session.specs.declared.outcome.Outcome.{Outcome}
use Rattle.abt_input.specs.Inputs.{IsFormulaOf}
use Rattle.line_cnf.specs.CnfRuns.{verdict_text, deliveries_text, refutation_at}
use Rattle.line_cnf.specs.ClauseRows.{steps_row}
use Rattle.line_cnf.specs.declared.apart.Made.{Made}

-- the problem is that of some formula
abbrev pub IsFormula : Contents → Type 0
IsFormula p = (text : List ℕ) × IsFormulaOf text p

-- the pairs of the step's nogood have variables below 4,096, and values 0 and 1
abbrev pub IsBinaryStep : Step → Type 0
IsBinaryStep step = All IsBinary step.nogood

-- the lines of an end
abbrev pub end_text : End (List ℤ) → List ℕ
end_text (Solved list) = verdict_text list runs.Solved
end_text Refuted = verdict_text [] runs.Refuted
end_text Spent = verdict_text [] runs.Spent
end_text Capped = verdict_text [] runs.Capped

-- its lines, and how many deliveries were made
abbrev pub outcome_text : Outcome → List ℕ
outcome_text outcome = end_text outcome.end ++ deliveries_text outcome.deliveries

-- what is kept of a run that ended so, where it is a refutation
abbrev pub kept_at : runs.End → List ℤ → Option (List ℤ)
kept_at runs.Refuted row = Some row
kept_at runs.Solved row = None
kept_at runs.Capped row = None
kept_at runs.Spent row = None

-- a run came to this: its outcome, and the clauses of its steps where they are a refutation
pub record HasMade (p : Contents) (run : runs.Run) (made : Made) : Type 0 where
  pub outcome : IsOutcome None (csp_of p) run.net run.end made.outcome
  pub refutation : made.refutation ≡ option_map steps_row (refutation_at run.end run.net.steps)
