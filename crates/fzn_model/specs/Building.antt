-- Problems with one thing more, or the refusal at the place of the item that adds it.
use Rattle.std.specs.Prelude.{ℕ, ℤ, List, [], ◌∷◌, ◌++◌, Option, Some, None, Result, Ok, Err}
use Rattle.dcsp_rule.specs.declared.rule.Rule.{Rule}
use Rattle.dcsp_rule.specs.declared.output.Output.{Output}
use Rattle.dcsp_problem.specs.declared.limits.BuildError.{BuildError}
use Rattle.dcsp_problem.specs.declared.limits.BuildError.TheVariants as errors
use Rattle.dcsp_problem.specs.Limits.{variable_refusal, rule_refusal}
use Rattle.dcsp_rule.specs.Problems.{Contents}
use Rattle.fzn_token.specs.declared.refusal.Refusal.{Refusal}
use Rattle.fzn_token.specs.declared.refusal.Refusal.TheVariants as refusal
use Rattle.fzn_scope.specs.Checks.{◌>>=◌}

-- the builder's refusal, at a place. Want of memory refuses no text
abbrev pub refused_at : ℕ → Option BuildError → Result (Unit {0}) Refusal
refused_at at None = Ok tt
refused_at at (Some (errors.Limit which count)) = Err (refusal.Limit which count at)
refused_at at (Some errors.WideSum) = Err (refusal.WideSum at)
refused_at at (Some errors.Memory) = Ok tt

-- with one more variable
abbrev pub with_variable : ℕ → Contents → List ℤ → Result Contents Refusal
with_variable at problem domain = do
  _ ← refused_at at (variable_refusal problem domain)
  Ok (record problem { domains = problem.domains ++ domain ∷ [] })

-- with one more rule
abbrev pub with_rule : ℕ → Contents → Rule → Result Contents Refusal
with_rule at problem rule = do
  _ ← refused_at at (rule_refusal problem rule)
  Ok (record problem { rules = problem.rules ++ rule ∷ [] })

-- with what is printed, if there is something
abbrev pub with_output : Contents → Option Output → Contents
with_output problem None = problem
with_output problem (Some output) = record problem { outputs = problem.outputs ++ output ∷ [] }
