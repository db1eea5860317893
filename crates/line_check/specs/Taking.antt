-- The problem that a log is checked against: the model's; or where a bound is given, the one that only solutions with a better value solve.
use Rattle.std.specs.Prelude.{◌≡◌, ℕ, ℤ, List, length, Option, Some, None, IsSome, Result, Ok, Err, ⊤}
use Rattle.dcsp_problem.specs.declared.problem.Problem.{Problem}
use Rattle.dcsp_rule.specs.Problems.{Contents}
use Rattle.dcsp_rule.specs.Rules.{IsAimOf}
use Rattle.dcsp_rule.specs.Aims.{aimed_at, narrowed}
use Rattle.abt_input.specs.Inputs.{IsModelOf}
use Rattle.abt_input.specs.Errors.{IsErrorOfModel}
use Rattle.abt_input.specs.Kinds.{FileKind}
use Rattle.abt_input.specs.declared.error.CommandError.{CommandError}
use Rattle.abt_input.specs.declared.error.CommandError.TheVariants.{NoAim, Memory}

-- how a check takes a model: which problem it is of, and why it is refused
pub record Taking : Type 1 where
  pub Is : List ℕ → Contents → Type 0
  pub Refuses : List ℕ → CommandError → Type 0

-- a model of which a problem is taken so
abbrev pub model_by : Taking → FileKind
model_by t = record { Value = Contents; Is = t.Is; Refuses = t.Refuses }

-- the model's own problem
abbrev pub plain : Taking
plain = record { Is = IsModelOf; Refuses = IsErrorOfModel }

-- the model's problem aims at a variable, and this is what it is narrowed to
pub record IsNarrowedOf (bound : ℤ) (model : List ℕ) (problem : Contents) : Type 0 where
  pub whole : Contents
  pub model_is : IsModelOf model whole
  pub known : IsAimOf (length whole.domains) whole.aim
  pub aimed : IsSome (aimed_at whole.aim)
  pub narrowed_is : problem ≡ narrowed whole bound

-- the model's problem aims at no variable
pub record LacksAim (model : List ℕ) : Type 0 where
  pub whole : Contents
  pub model_is : IsModelOf model whole
  pub aimless : aimed_at whole.aim ≡ None

-- the model has no problem, or it aims at no variable
abbrev pub IsErrorOfAim : List ℕ → CommandError → Type 0
IsErrorOfAim model NoAim = LacksAim model
IsErrorOfAim model error = IsErrorOfModel model error

-- the problem that only solutions with a better value than the bound solve
abbrev pub narrowing : ℤ → Taking
narrowing bound = record { Is = IsNarrowedOf bound; Refuses = IsErrorOfAim }

-- what is checked: the whole problem, or where a bound is given, the narrowed one
abbrev pub taking_of : Option ℤ → Taking
taking_of None = plain
taking_of (Some bound) = narrowing bound

-- what is left of a problem that aims at a variable, where only better values than the bound are wanted
pub record IsNarrowing (bound : ℤ) (whole problem : Contents) : Type 0 where
  pub known : IsAimOf (length whole.domains) whole.aim
  pub aimed : IsSome (aimed_at whole.aim)
  pub narrowed_is : problem ≡ narrowed whole bound

-- what is left of a problem by a bound, if one is given, want of memory aside: itself; or what it is narrowed to; or nothing, where it aims at no variable
abbrev pub LeavesBounded : Option ℤ → Contents → Result Problem CommandError → Type 0
LeavesBounded None whole (Ok problem) = problem ≡ whole
LeavesBounded (Some bound) whole (Ok problem) = IsNarrowing bound whole problem
LeavesBounded (Some bound) whole (Err NoAim) = aimed_at whole.aim ≡ None
LeavesBounded better whole (Err Memory) = ⊤
LeavesBounded better whole (Err error) = ⊥

-- the model has a problem for the check
abbrev pub HasProblemFor : Taking → List ℕ → Type 0
HasProblemFor t model = (problem : Contents) × t.Is model problem
