-- What an accepted text means: its problem's solutions are the assignments that satisfy its items.
use Rattle.std.specs.Prelude.{◌≡◌, ◌↔◌, ℕ, true, false, List, [], ◌∷◌, slice_get, Option, Some, None, Ok}
use Rattle.std.specs.List.{filter_map}
use Rattle.fzn_token.specs.declared.token.Token.{Token}
use Rattle.fzn_token.specs.Tokens.{AreTokens}
use Rattle.fzn_item.specs.declared.item.Expr.{Expr}
use Rattle.fzn_item.specs.declared.item.Goal.{Goal}
use Rattle.fzn_item.specs.declared.item.Goal.TheVariants as goals
use Rattle.fzn_item.specs.declared.item.Item.{Item}
use Rattle.fzn_item.specs.declared.item.Item.TheVariants as item
use Rattle.fzn_item.specs.Items.{AreItemsTo}
use Rattle.dcsp_defs.specs.Words.{In}
use Rattle.dcsp_defs.specs.Csp.{Assignment, IsSolution}
use Rattle.dcsp_rule.specs.declared.rule.Term.{Term}
use Rattle.dcsp_rule.specs.declared.aim.Aim.{Aim}
use Rattle.dcsp_rule.specs.declared.aim.Aim.TheVariants.{Satisfy, Least, Greatest}
use Rattle.dcsp_rule.specs.Rules.{value_under}
use Rattle.dcsp_rule.specs.Problems.{Contents, csp_of}
use Rattle.fzn_scope.specs.Names.{bytes_at}
use Rattle.fzn_model.specs.Items.{resolved}
use Rattle.fzn_model.specs.Models.{Answers}
use Rattle.law_subjects.specs.Environments.{Number, Environment, expr_value}
use Rattle.law_subjects.specs.Holding.{Holds}

-- the name that the item declares, if it declares one
abbrev pub name_of : List ℕ → Item → Option (List ℕ)
name_of text (item.Predicate at) = None
name_of text (item.Declare at variable index type name_at name_to marked right) = Some (bytes_at text name_at name_to)
name_of text (item.Constraint at name_at name_to arguments) = None
name_of text (item.Solve at goal) = None

-- the same where it declares a variable that is no array
abbrev pub variable_of : List ℕ → Item → Option (List ℕ)
variable_of text (item.Predicate at) = None
variable_of text (item.Declare at true None type name_at name_to marked right) = Some (bytes_at text name_at name_to)
variable_of text (item.Declare at true (Some index) type name_at name_to marked right) = None
variable_of text (item.Declare at false index type name_at name_to marked right) = None
variable_of text (item.Constraint at name_at name_to arguments) = None
variable_of text (item.Solve at goal) = None

-- the names of the variables, in the order of their declarations
abbrev pub variables : List ℕ → List Item → List (List ℕ)
variables text items = filter_map (variable_of text) items

-- the goal that the item states, if it is a solve item
abbrev pub goal_of : Item → Option Goal
goal_of (item.Predicate at) = None
goal_of (item.Declare at variable index type name_at name_to marked right) = None
goal_of (item.Constraint at name_at name_to arguments) = None
goal_of (item.Solve at goal) = Some goal

-- the goals that items state, in order
abbrev pub goals_of : List Item → List Goal
goals_of items = filter_map goal_of items

-- the values of names are as each item says, and the variable that is declared as number k has the assignment's value at k
pub record Satisfies (text : List ℕ) (items : List Item) (values : Assignment) (env : Environment) : Type 0 where
  pub each : (i : Item) → In i items → Holds text env i
  pub numbered : (k : ℕ) (name : List ℕ) → slice_get (variables text items) k ≡ Some name → env name ≡ Number (values k)

-- an assignment satisfies a text: the text reads as tokens and these as items, and some values of names satisfy the items with the assignment's values for the variables
pub record SatisfiesText (text : List ℕ) (values : Assignment) : Type 0 where
  pub tokens : List Token
  pub items : List Item
  pub lexed : AreTokens text tokens
  pub read : AreItemsTo text tokens items []
  pub environment : Environment
  pub satisfied : Satisfies text items values environment

-- The solutions of the problem of some items are the assignments that satisfy the items, with some values of the other names.
abbrev pub MeansItsItems : Type 0
MeansItsItems = (text : List ℕ) (items : List Item) (problem : Contents) → resolved text items ≡ Ok problem → (values : Assignment)
    → IsSolution (csp_of problem) values ↔ ((env : Environment) × Satisfies text items values env)

-- wherever an assignment satisfies the items, the term has the value that the expression has
abbrev pub HasValueOf : List ℕ → List Item → Expr → Term → Type 0
HasValueOf text items what term = (values : Assignment) (env : Environment) → Satisfies text items values env → expr_value text env what ≡ Number (value_under values term)

-- the aim is what the goal asks for: any solution, or one with the least or the greatest value of a term that has the value of the goal's expression
abbrev pub IsAskedBy : List ℕ → List Item → Goal → Aim → Type 0
IsAskedBy text items goals.Satisfy aim = aim ≡ Satisfy
IsAskedBy text items (goals.Minimize at what) aim = (term : Term) × (aim ≡ Least term) × HasValueOf text items what term
IsAskedBy text items (goals.Maximize at what) aim = (term : Term) × (aim ≡ Greatest term) × HasValueOf text items what term

-- the items state one goal, and the aim is what it asks for
pub record StatesAim (text : List ℕ) (items : List Item) (aim : Aim) : Type 0 where
  pub goal : Goal
  pub only : goals_of items ≡ goal ∷ []
  pub asked : IsAskedBy text items goal aim

-- The aim of the problem of some items is what their one goal asks for.
abbrev pub AimsAtItsGoal : Type 0
AimsAtItsGoal = (text : List ℕ) (items : List Item) (problem : Contents) → resolved text items ≡ Ok problem → StatesAim text items problem.aim

-- The solutions of the problem of a text are the assignments that satisfy the items that the text reads as, and its aim is what their goal asks for.
pub record IsMeaningOf (text : List ℕ) (problem : Contents) : Type 0 where
  pub tokens : List Token
  pub items : List Item
  pub lexed : AreTokens text tokens
  pub read : AreItemsTo text tokens items []
  pub means : (values : Assignment) → IsSolution (csp_of problem) values ↔ ((env : Environment) × Satisfies text items values env)
  pub aim : StatesAim text items problem.aim

-- Each text that has a problem means this of its items.
abbrev pub MeansItsText : Type 0
MeansItsText = (text : List ℕ) (problem : Contents) → Answers text (Ok problem) → IsMeaningOf text problem

-- The solutions of a text's problem are the assignments that satisfy the text.
abbrev pub SolutionsSatisfy : Type 0
SolutionsSatisfy = (text : List ℕ) (problem : Contents) → Answers text (Ok problem) → (values : Assignment) → IsSolution (csp_of problem) values ↔ SatisfiesText text values

-- The values of the variables determine the values of all declared names.
abbrev pub VariablesDetermine : Type 0
VariablesDetermine = (text : List ℕ) (items : List Item) (problem : Contents) → resolved text items ≡ Ok problem → (values : Assignment) (env other : Environment)
    → Satisfies text items values env → Satisfies text items values other → (i : Item) (name : List ℕ) → In i items → name_of text i ≡ Some name → env name ≡ other name
