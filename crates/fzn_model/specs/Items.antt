-- The problem of a list of items, or their first refusal: the items are taken in the order of the file.
use Rattle.std.specs.Prelude.{ℕ, ℤ, Bool, true, false, List, [], ◌∷◌, Option, Some, None, Result, Ok, Err, if◌then◌else◌}
use Rattle.fzn_item.specs.declared.item.Expr.{Expr}
use Rattle.fzn_item.specs.declared.item.Base.{Base}
use Rattle.fzn_item.specs.declared.item.Marked.{Marked}
use Rattle.fzn_item.specs.declared.item.Goal.{Goal}
use Rattle.fzn_item.specs.declared.item.Goal.TheVariants as goals
use Rattle.fzn_item.specs.declared.item.Item.{Item}
use Rattle.fzn_item.specs.declared.item.Item.TheVariants as item
use Rattle.dcsp_rule.specs.declared.aim.Aim.{Aim}
use Rattle.dcsp_rule.specs.declared.aim.Aim.TheVariants.{Satisfy, Least, Greatest}
use Rattle.dcsp_rule.specs.Problems.{Contents}
use Rattle.fzn_token.specs.declared.refusal.Refusal.{Refusal}
use Rattle.fzn_token.specs.declared.refusal.Refusal.TheVariants as refusal
use Rattle.fzn_scope.specs.Checks.{◌>>=◌, refused_if}
use Rattle.fzn_scope.specs.declared.place.Wanted.{Wanted}
use Rattle.fzn_scope.specs.Names.{Scope, bytes_at}
use Rattle.fzn_scope.specs.Places.{one_of}
use Rattle.fzn_scope.specs.Rules.{constraint_rule}
use Rattle.fzn_model.specs.Building.{with_rule}
use Rattle.fzn_model.specs.Declarations.{SoFar, is_late, declaration, parameter, variable, array}

-- before the first item
abbrev pub start : SoFar
start = record { scope = []; problem = record { domains = []; rules = []; outputs = []; aim = Satisfy }; constrained = false; solved = false }

-- a parameter, a variable, or an array of either
abbrev pub declared_by : List ℕ → SoFar → ℕ → Bool → Option (ℤ × ℤ) → Base → ℕ → List ℕ → Marked → Option Expr → Result SoFar Refusal
declared_by text s at variable (Some index) base name_at name marked right = array text s at variable index base name_at name marked right
declared_by text s at true None base name_at name marked right = variable text s at base name_at name marked right
declared_by text s at false None base name_at name marked right = parameter text s at base name_at name right

-- a declaration
abbrev pub declare : List ℕ → SoFar → ℕ → Bool → Option (ℤ × ℤ) → Base → ℕ → List ℕ → Marked → Option Expr → Result SoFar Refusal
declare text s at variable index base name_at name marked right = do
  _ ← declaration s at name_at name
  declared_by text s at variable index base name_at name marked right

-- a constraint adds its rule
unfoldable pub constraint : List ℕ → SoFar → ℕ → ℕ → List ℕ → List Expr → Result SoFar Refusal
constraint text s at name_at name exprs = do
  _ ← refused_if s.solved (refusal.Misplaced at)
  rule ← constraint_rule text s.scope name_at name exprs
  ruled ← with_rule name_at s.problem rule
  Ok (record s { problem = ruled; constrained = true })

-- at an integer's place
abbrev pub an_integer : Wanted
an_integer = record { boolean = false; constant = false }

-- what a goal wants of a solution: any, or the least or the greatest value of an integer
abbrev pub aim_of : List ℕ → Scope → Goal → Result Aim Refusal
aim_of text scope goals.Satisfy = Ok Satisfy
aim_of text scope (goals.Minimize at what) = do
  term ← one_of text scope an_integer what
  Ok (Least term)
aim_of text scope (goals.Maximize at what) = do
  term ← one_of text scope an_integer what
  Ok (Greatest term)

-- a solve item is the last
unfoldable pub solve : List ℕ → SoFar → ℕ → Goal → Result SoFar Refusal
solve text s at goal = do
  _ ← refused_if s.solved (refusal.Misplaced at)
  aim ← aim_of text s.scope goal
  Ok (record s { problem = record s.problem { aim = aim }; solved = true })

-- a predicate adds nothing
unfoldable pub predicate : SoFar → ℕ → Result SoFar Refusal
predicate s at = do
  _ ← refused_if (is_late s) (refusal.Misplaced at)
  Ok s

-- one item more
abbrev pub after : List ℕ → SoFar → Item → Result SoFar Refusal
after text s (item.Predicate at) = predicate s at
after text s (item.Declare at variable index base name_at name_to marked right) = declare text s at variable index base name_at (bytes_at text name_at name_to) marked right
after text s (item.Constraint at name_at name_to arguments) = constraint text s at name_at (bytes_at text name_at name_to) arguments
after text s (item.Solve at goal) = solve text s at goal

-- these items more, in order
abbrev pub after_all : List ℕ → SoFar → List Item → Result SoFar Refusal
after_all text s [] = Ok s
after_all text s (i ∷ rest) = do
  next ← after text s i
  after_all text next rest

-- the problem after the last item, if there was a solve item
abbrev pub finished : SoFar → Result Contents Refusal
finished s = if s.solved then Ok s.problem else Err refusal.NoSolve

-- the problem of all items, among which there must be a solve item
unfoldable pub resolved : List ℕ → List Item → Result Contents Refusal
resolved text items = do
  s ← after_all text start items
  finished s
