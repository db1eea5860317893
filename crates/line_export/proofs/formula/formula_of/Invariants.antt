use Rattle.std.proofs.Common.{◌≡◌, drop}
use Rattle.std.specs.Prelude.{flat_map}
use Rattle.line_export.specs.Clauses.{step_clauses, with_clauses, formula}
use Rattle.line_export.proofs.formula.formula_of.Given as goal

-- with the clauses of the steps from here on these are all
abbrev pub invariant-loop-step : goal.invariant-loop-step
invariant-loop-step l = with_clauses l.clauses (flat_map (step_clauses l.atoms.problem.now) (drop l.step-index l.steps)) ≡ formula l.atoms.problem.now l.steps
