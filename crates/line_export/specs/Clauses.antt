-- A derivation as a formula and a proof over the atoms of its problem.
use Rattle.std.specs.Prelude.{◌≡◌, ◌<◌, ℕ, ℤ, List, [], ◌∷◌, ◌++◌, map, flat_map, length, Option, Some, None, All, if◌then◌else◌}
use Rattle.std.specs.List.{list_any}
use Rattle.std.specs.Ordering.{int_eq}
use Rattle.std.specs.Cmp.Lexicographic.{pointwise}
use Rattle.dcsp_defs.specs.declared.nogood.Pair.{Pair}
use Rattle.dcsp_defs.specs.Words.{below}
use Rattle.dcsp_defs.specs.Csp.{Csp, Nogood, PartialAssignment, domain, filled, given_with}
use Rattle.dcsp_defs.specs.declared.Reason.{Reason}
use Rattle.dcsp_defs.specs.declared.Reason.TheVariants.{Rule, Earlier}
use Rattle.dcsp_defs.specs.declared.Step.{Step}
use Rattle.dcsp_rule.specs.Problems.{Contents, csp_of, constraint_at}
use Rattle.line_export.specs.Atoms.{has_value, lacks_value}

-- a clause as its literals: N for atom N, and -N for its negation
abbrev pub Clause : Type 0
Clause = List ℤ

-- ---- what is said

-- that the variable has a value: the atoms of its domain, in rising order
abbrev pub value_clause : Csp → ℕ → Clause
value_clause p k = map (has_value p k) (domain p k)

-- that these variables have not all of these values
abbrev pub exclusion : Csp → PartialAssignment → List ℕ → Clause
exclusion p known variables = map (λ k. lacks_value p k (filled known k)) variables

-- that the pairs of a nogood do not hold together
abbrev pub nogood_clause : Csp → Nogood → Clause
nogood_clause p pairs = map (λ (y : Pair). lacks_value p y.var y.value) pairs

-- what a reason says: a rule that is false excludes the values of its scope; an earlier step says it by itself
abbrev pub reason_clauses : Contents → PartialAssignment → Reason → List Clause
reason_clauses p known (Rule number) = exclusion (csp_of p) known (constraint_at p number).scope ∷ []
reason_clauses p known (Earlier number) = []

-- what the reasons say, each for its value of x, where the pairs hold
abbrev pub clauses_at : Contents → Nogood → ℕ → List ℤ → List Reason → List Clause
clauses_at p pairs x [] reasons = []
clauses_at p pairs x (v ∷ vs) [] = []
clauses_at p pairs x (v ∷ vs) (r ∷ rs) = reason_clauses p (given_with x v pairs) r ++ clauses_at p pairs x vs rs

-- the clauses of a step at this variable; at none a rule without variables is false, which is the empty clause
abbrev pub clauses_of : Contents → Step → Option ℕ → List Clause
clauses_of p step None = [] ∷ []
clauses_of p step (Some x) = clauses_at p step.nogood x (domain (csp_of p) x) step.reasons

abbrev pub step_clauses : Contents → Step → List Clause
step_clauses p step = clauses_of p step step.variable

-- ---- the formula and the proof

-- the clause goes last, unless it is there
abbrev pub with_clause : List Clause → Clause → List Clause
with_clause clauses clause = if list_any (pointwise int_eq clause) clauses then clauses else clauses ++ clause ∷ []

-- one clause after the other
abbrev pub with_clauses : List Clause → List Clause → List Clause
with_clauses clauses [] = clauses
with_clauses clauses (c ∷ cs) = with_clauses (with_clause clauses c) cs

-- the clauses of the variables
abbrev pub value_clauses : Contents → List Clause
value_clauses p = map (value_clause (csp_of p)) (below (length p.domains))

-- the clauses of the variables, and then those of the steps, each clause once
abbrev pub formula : Contents → List Step → List Clause
formula p steps = with_clauses [] (value_clauses p ++ flat_map (step_clauses p) steps)

-- for each step the clause of its nogood
abbrev pub proof : Contents → List Step → List Clause
proof p steps = map (λ (step : Step). nogood_clause (csp_of p) step.nogood) steps

-- ---- what a step names

-- the reason cites a rule of the problem, or an earlier step
abbrev pub IsReasonIn : Contents → Reason → Type 0
IsReasonIn p (Rule number) = number < length p.rules
IsReasonIn p (Earlier number) = Unit {0}

-- the step is at a variable of the problem, with as many reasons as that has values; or at none
abbrev pub IsAt : Contents → Step → Option ℕ → Type 0
IsAt p step None = Unit {0}
IsAt p step (Some x) = (x < length p.domains) × (length step.reasons ≡ length (domain (csp_of p) x))

-- the step names variables and rules of the problem alone
pub record IsStepIn (p : Contents) (step : Step) : Type 0 where
  pub at : IsAt p step step.variable
  pub pairs : All (λ (y : Pair). y.var < length p.domains) step.nogood
  pub reasons : All (IsReasonIn p) step.reasons
