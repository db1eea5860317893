-- Which of the assignments that satisfy a text are the best, as its goal asks.
use Rattle.std.specs.Prelude.{◌≡◌, ◌⊎◌, ◌↔◌, ℕ, ℤ, Bool, false, List, [], ◌∷◌, Option, Some, None, Ok, int_lt}
use Rattle.std.specs.Option.{option_map}
use Rattle.fzn_item.specs.declared.item.Expr.{Expr}
use Rattle.fzn_item.specs.declared.item.Goal.{Goal}
use Rattle.fzn_item.specs.declared.item.Goal.TheVariants as goals
use Rattle.dcsp_defs.specs.Csp.{Assignment, IsSolution}
use Rattle.dcsp_rule.specs.declared.rule.Term.{Term}
use Rattle.dcsp_rule.specs.declared.aim.Aim.{Aim}
use Rattle.dcsp_rule.specs.declared.aim.Aim.TheVariants.{Least, Greatest}
use Rattle.dcsp_rule.specs.Rules.{value_under}
use Rattle.dcsp_rule.specs.Problems.{Contents, csp_of}
use Rattle.dcsp_rule.specs.Aims.{is_better}
use Rattle.fzn_model.specs.Models.{Answers}
use Rattle.law_subjects.specs.Environments.{Number, expr_value}
use Rattle.law_subjects.specs.Meaning.{goals_of, SatisfiesText}

-- the expression whose least or greatest value the goal asks for, if it asks for one
abbrev pub asked_of : Goal → Option Expr
asked_of goals.Satisfy = None
asked_of (goals.Minimize at what) = Some what
asked_of (goals.Maximize at what) = Some what

-- whether a value is better than the bound: less where the goal is `minimize`, greater where it is `maximize`
abbrev pub betters : Goal → ℤ → ℤ → Bool
betters goals.Satisfy bound value = false
betters (goals.Minimize at what) bound value = int_lt value bound
betters (goals.Maximize at what) bound value = int_lt bound value

-- an assignment satisfies a text that states one goal, and the expression that the goal asks about has this value then
pub record Attains (text : List ℕ) (values : Assignment) (goal : Goal) (value : ℤ) : Type 0 where
  pub satisfied : SatisfiesText text values
  pub stated : goals_of satisfied.items ≡ goal ∷ []
  pub attained : option_map (expr_value text satisfied.environment) (asked_of goal) ≡ Some (Number value)

-- no assignment that satisfies the text attains a better value than the bound
abbrev pub NoneBetters : List ℕ → ℤ → Type 0
NoneBetters text bound = (values : Assignment) (goal : Goal) (value : ℤ) → Attains text values goal value → betters goal bound value ≡ false

-- the assignment satisfies the text, and none attains a better value than it
pub record IsBestFor (text : List ℕ) (values : Assignment) : Type 0 where
  pub goal : Goal
  pub value : ℤ
  pub attains : Attains text values goal value
  pub none_betters : NoneBetters text value

-- the aim is at the term
abbrev pub IsAt : Aim → Term → Type 0
IsAt aim term = (aim ≡ Least term) ⊎ (aim ≡ Greatest term)

-- no solution has a better value than the bound at the term that the aim is at
abbrev pub HasNoneBetter : Contents → ℤ → Type 0
HasNoneBetter problem bound = (values : Assignment) (term : Term) → IsSolution (csp_of problem) values → IsAt problem.aim term → is_better problem.aim bound (value_under values term) ≡ false

-- a solution than which none is better
pub record IsBestSolution (problem : Contents) (values : Assignment) : Type 0 where
  pub solution : IsSolution (csp_of problem) values
  pub term : Term
  pub aimed : IsAt problem.aim term
  pub none_better : HasNoneBetter problem (value_under values term)

-- No assignment that satisfies a text attains a better value than a bound exactly where no solution of the text's problem has one.
abbrev pub BoundsAgree : Type 0
BoundsAgree = (text : List ℕ) (problem : Contents) → Answers text (Ok problem) → (bound : ℤ) → NoneBetters text bound ↔ HasNoneBetter problem bound

-- The assignments that are best for a text are the best solutions of its problem.
abbrev pub BestAgree : Type 0
BestAgree = (text : List ℕ) (problem : Contents) → Answers text (Ok problem) → (values : Assignment) → IsBestFor text values ↔ IsBestSolution problem values
