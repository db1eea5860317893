-- Which items are accepted: each passes each of its checks, and one is a solve item. The order of the checks plays no part.
use Rattle.std.specs.Prelude.{◌≡◌, ◌↔◌, ℕ, ◌+◌, ℤ, pos, Bool, true, false, not, ◌&&◌, ◌||◌, List, [], ◌∷◌, ◌++◌, map, length, flat_map, sum, Option, Some, None, is_none, Ok}
use Rattle.std.specs.List.{list_any}
use Rattle.fzn_token.specs.declared.token.Token.{Token}
use Rattle.fzn_token.specs.Tokens.{AreTokens}
use Rattle.dcsp_domain.specs.Ranges.{count_between, numbers_between}
use Rattle.dcsp_domain.specs.Sets.{set_of as values_of}
use Rattle.fzn_item.specs.declared.item.Base.{Base}
use Rattle.fzn_item.specs.declared.item.Base.TheVariants as base
use Rattle.fzn_item.specs.declared.item.Expr.{Expr}
use Rattle.fzn_item.specs.declared.item.Goal.{Goal}
use Rattle.fzn_item.specs.declared.item.Goal.TheVariants as goals
use Rattle.fzn_item.specs.declared.item.Item.{Item}
use Rattle.fzn_item.specs.declared.item.Item.TheVariants as item
use Rattle.fzn_item.specs.declared.item.Marked.{Marked}
use Rattle.fzn_item.specs.Items.{AreItemsTo}
use Rattle.dcsp_common.specs.declared.limits.Which.TheVariants.{DomainSize, Variables, DomainValues, Rules, Terms, Elements}
use Rattle.dcsp_rule.specs.Widths.{greatest_among}
use Rattle.dcsp_rule.specs.Problems.{Contents}
use Rattle.fzn_scope.specs.Names.{bytes_at}
use Rattle.fzn_scope.specs.Forms.{form_named}
use Rattle.fzn_model.specs.Declarations.{is_boolean, is_index, is_shaped}
use Rattle.fzn_model.specs.Items.{resolved}
use Rattle.fzn_model.specs.Models.{Answers}
use Rattle.law_inputs.specs.Sorts.{Sort, One, Set, Many, Names, sort_named, one_suits, one_size, list_suits, list_sizes, set_suits, set_count}
use Rattle.law_inputs.specs.Arguments.{is_within, constraint_suits, constraint_size}

-- ---- types

-- the values of a variable of this type; none where it has no bounds or is no type of variables
abbrev pub values_in : Base → List ℤ
values_in base.Bool = pos 0 ∷ pos 1 ∷ []
values_in base.Int = []
values_in base.Float = []
values_in base.Set = []
values_in (base.Range low high) = numbers_between low high
values_in (base.Listed values) = values_of values

-- whether a variable can be of this type: it has bounds, and not too many values
abbrev pub is_bounded : Base → Bool
is_bounded base.Bool = true
is_bounded base.Int = false
is_bounded base.Float = false
is_bounded base.Set = false
is_bounded (base.Range low high) = is_within DomainSize (count_between low high)
is_bounded (base.Listed values) = is_within DomainSize (length (values_of values))

-- whether elements of arrays can be of this type
abbrev pub is_of_numbers : Base → Bool
is_of_numbers base.Bool = true
is_of_numbers base.Int = true
is_of_numbers base.Float = false
is_of_numbers base.Set = false
is_of_numbers (base.Range low high) = true
is_of_numbers (base.Listed values) = true

-- how many terms the constraint that an element is in its type counts for, where the type is a set
abbrev pub member_size : Base → Option ℕ
member_size base.Bool = None
member_size base.Int = None
member_size base.Float = None
member_size base.Set = None
member_size (base.Range low high) = Some 1
member_size (base.Listed values) = Some (1 + length values)

-- ---- declarations

-- whether a parameter of this type can have this value
abbrev pub value_suits : List ℕ → Names → Base → Expr → Bool
value_suits text names base.Bool expr = one_suits text names (record { boolean = true; constant = true }) expr
value_suits text names base.Int expr = one_suits text names (record { boolean = false; constant = true }) expr
value_suits text names base.Float expr = false
value_suits text names base.Set expr = set_suits text names expr
value_suits text names (base.Range low high) expr = one_suits text names (record { boolean = false; constant = true }) expr
value_suits text names (base.Listed values) expr = one_suits text names (record { boolean = false; constant = true }) expr

-- whether a parameter has a right side, and that is its value
abbrev pub parameter_suits : List ℕ → Names → Base → Option Expr → Bool
parameter_suits text names type None = false
parameter_suits text names type (Some expr) = value_suits text names type expr

-- whether a variable has no right side, or one of its sort
abbrev pub source_suits : List ℕ → Names → Base → Option Expr → Bool
source_suits text names type None = true
source_suits text names type (Some expr) = one_suits text names (record { boolean = is_boolean type; constant = false }) expr

-- whether an array has a right side: a list of its sort, as long as its index says, of a size that is allowed and that can be printed as it is marked
abbrev pub elements_suit : List ℕ → Names → Bool → ℤ × ℤ → Base → Marked → Option Expr → Bool
elements_suit text names variable index type marked None = false
elements_suit text names variable index type marked (Some expr) =
    list_suits text names (record { boolean = is_boolean type; constant = not variable }) expr
    && is_index index (length (list_sizes text names expr))
    && not (variable && not (is_shaped marked (length (list_sizes text names expr))))
    && is_within Elements (length (list_sizes text names expr))

-- whether the type and the right side of a declaration pass their checks
abbrev pub declaration_suits : List ℕ → Names → Bool → Option (ℤ × ℤ) → Base → Marked → Option Expr → Bool
declaration_suits text names variable (Some index) type marked right = is_of_numbers type && elements_suit text names variable index type marked right
declaration_suits text names true None type marked right = is_bounded type && source_suits text names type right
declaration_suits text names false None type marked right = parameter_suits text names type right

-- the sizes of a right side, if there is one
abbrev pub right_sizes : List ℕ → Names → Option Expr → List ℕ
right_sizes text names None = []
right_sizes text names (Some expr) = list_sizes text names expr

-- the sort of a parameter of this type
abbrev pub value_sort : List ℕ → Names → Base → Option Expr → Sort
value_sort text names type None = Set 0
value_sort text names base.Bool (Some expr) = One true true (one_size text names expr)
value_sort text names base.Int (Some expr) = One false true (one_size text names expr)
value_sort text names base.Float (Some expr) = Set 0
value_sort text names base.Set (Some expr) = Set (set_count text names expr)
value_sort text names (base.Range low high) (Some expr) = One false true (one_size text names expr)
value_sort text names (base.Listed values) (Some expr) = One false true (one_size text names expr)

-- the sort of a name that is declared so. Of a declaration that does not pass its checks it plays no part
abbrev pub sort_of : List ℕ → Names → Bool → Option (ℤ × ℤ) → Base → Option Expr → Sort
sort_of text names variable (Some index) type right = Many (is_boolean type) variable (right_sizes text names right)
sort_of text names true None type right = One (is_boolean type) false (greatest_among (values_in type))
sort_of text names false None type right = value_sort text names type right

-- ---- items one after another

-- the names with that of an item, if it declares one
abbrev pub with_name : List ℕ → Names → Item → Names
with_name text names (item.Predicate at) = names
with_name text names (item.Declare at variable index type name_at name_to marked right) = names ++ (bytes_at text name_at name_to, sort_of text names variable index type right) ∷ []
with_name text names (item.Constraint at name_at name_to arguments) = names
with_name text names (item.Solve at goal) = names

-- the names with those that items declare
abbrev pub with_names : List ℕ → Names → List Item → Names
with_names text names [] = names
with_names text names (i ∷ items) = with_names text (with_name text names i) items

-- how many values a variable has, if the item declares one
abbrev pub variable_sizes : Item → List ℕ
variable_sizes (item.Predicate at) = []
variable_sizes (item.Declare at true None type name_at name_to marked right) = length (values_in type) ∷ []
variable_sizes (item.Declare at true (Some index) type name_at name_to marked right) = []
variable_sizes (item.Declare at false index type name_at name_to marked right) = []
variable_sizes (item.Constraint at name_at name_to arguments) = []
variable_sizes (item.Solve at goal) = []

-- the constraint that a variable is equal to its right side
abbrev pub source_sizes : Option Expr → List ℕ
source_sizes None = []
source_sizes (Some expr) = 2 ∷ []

-- the constraints that elements are in their set
abbrev pub member_sizes : Option ℕ → List ℕ → List ℕ
member_sizes None sizes = []
member_sizes (Some count) sizes = map (λ (size : ℕ). count) sizes

-- for each constraint that an item states, how many terms it counts for. A variable with a right side states that they are equal, and an array of variables whose type is a set that each element is in it
abbrev pub rule_sizes : List ℕ → Names → Item → List ℕ
rule_sizes text names (item.Predicate at) = []
rule_sizes text names (item.Declare at true None type name_at name_to marked right) = source_sizes right
rule_sizes text names (item.Declare at true (Some index) type name_at name_to marked right) = member_sizes (member_size type) (right_sizes text names right)
rule_sizes text names (item.Declare at false index type name_at name_to marked right) = []
rule_sizes text names (item.Constraint at name_at name_to arguments) = constraint_size text names (form_named (bytes_at text name_at name_to)) arguments ∷ []
rule_sizes text names (item.Solve at goal) = []

-- the same of items, before which these names are declared
abbrev pub all_rule_sizes : List ℕ → Names → List Item → List ℕ
all_rule_sizes text names [] = []
all_rule_sizes text names (i ∷ items) = rule_sizes text names i ++ all_rule_sizes text (with_name text names i) items

-- whether variables with so many values, and constraints of so many terms, are within their limits
abbrev pub are_few : List ℕ → List ℕ → Bool
are_few variables rules = is_within Variables (length variables) && is_within DomainValues (sum variables) && is_within Rules (length rules) && is_within Terms (sum rules)

-- ---- checks

abbrev pub is_solve : Item → Bool
is_solve (item.Predicate at) = false
is_solve (item.Declare at variable index type name_at name_to marked right) = false
is_solve (item.Constraint at name_at name_to arguments) = false
is_solve (item.Solve at goal) = true

abbrev pub is_constraint : Item → Bool
is_constraint (item.Predicate at) = false
is_constraint (item.Declare at variable index type name_at name_to marked right) = false
is_constraint (item.Constraint at name_at name_to arguments) = true
is_constraint (item.Solve at goal) = false

-- whether a goal asks for any solution, or about an integer
abbrev pub goal_suits : List ℕ → Names → Goal → Bool
goal_suits text names goals.Satisfy = true
goal_suits text names (goals.Minimize at what) = one_suits text names (record { boolean = false; constant = false }) what
goal_suits text names (goals.Maximize at what) = one_suits text names (record { boolean = false; constant = false }) what

-- whether an item passes its checks, where these items stand before it and declare these names. Predicates and declarations stand before constraints, and a solve item after all others; a name is declared once
abbrev pub suits_after : List ℕ → Names → List Item → Item → Bool
suits_after text names before (item.Predicate at) = not (list_any is_solve before || list_any is_constraint before)
suits_after text names before (item.Declare at variable index type name_at name_to marked right) =
    not (list_any is_solve before || list_any is_constraint before)
    && is_none (sort_named names (bytes_at text name_at name_to))
    && declaration_suits text names variable index type marked right
suits_after text names before (item.Constraint at name_at name_to arguments) = not (list_any is_solve before) && constraint_suits text names (form_named (bytes_at text name_at name_to)) arguments
suits_after text names before (item.Solve at goal) = not (list_any is_solve before) && goal_suits text names goal

-- the same, and with it the items are within their limits
abbrev pub passes : List ℕ → List Item → Item → Bool
passes text before i =
    suits_after text (with_names text [] before) before i
    && are_few (flat_map variable_sizes (before ++ i ∷ [])) (all_rule_sizes text [] (before ++ i ∷ []))

-- each item passes each of its checks, and one is a solve item
pub record AreAccepted (text : List ℕ) (items : List Item) : Type 0 where
  pub each : (before : List Item) (i : Item) (rest : List Item) → items ≡ before ++ i ∷ rest → passes text before i ≡ true
  pub solved : list_any is_solve items ≡ true

-- Items have a problem exactly where they are accepted.
abbrev pub AcceptedItems : Type 0
AcceptedItems = (text : List ℕ) (items : List Item) → ((problem : Contents) × (resolved text items ≡ Ok problem)) ↔ AreAccepted text items

-- a text is accepted: it reads as tokens and these as items, and the items are accepted
pub record IsAccepted (text : List ℕ) : Type 0 where
  pub tokens : List Token
  pub items : List Item
  pub lexed : AreTokens text tokens
  pub read : AreItemsTo text tokens items []
  pub accepted : AreAccepted text items

-- A text has a problem exactly where it is accepted.
abbrev pub AcceptedTexts : Type 0
AcceptedTexts = (text : List ℕ) → ((problem : Contents) × Answers text (Ok problem)) ↔ IsAccepted text
