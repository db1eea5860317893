-- Parameters, variables and arrays: what each declaration adds, or its first refusal.
use Rattle.std.specs.Prelude.{ℕ, ℤ, pos, ◌==◌, Bool, true, false, not, ◌&&◌, ◌||◌, nat_le, nat_lt, List, [], ◌∷◌, ◌++◌, length, Option, Some, None, is_some, Result, Ok, Err, if◌then◌else◌}
use Rattle.std.specs.Ordering.{int_eq}
use Rattle.dcsp_domain.specs.Ranges.{count_between, numbers_between}
use Rattle.dcsp_domain.specs.Sets.{set_of as values_of}
use Rattle.fzn_item.specs.declared.item.Expr.{Expr}
use Rattle.fzn_item.specs.declared.item.Base.{Base}
use Rattle.fzn_item.specs.declared.item.Base.TheVariants as base
use Rattle.fzn_item.specs.declared.item.Marked.{Marked}
use Rattle.fzn_item.specs.declared.item.Marked.TheVariants as marked
use Rattle.dcsp_meaning.specs.declared.kinds.ConstraintKind.{ConstraintKind}
use Rattle.dcsp_meaning.specs.declared.kinds.ConstraintKind.TheVariants.{IntEq, BoolEq, SetIn}
use Rattle.dcsp_rule.specs.declared.rule.Term.{Term}
use Rattle.dcsp_rule.specs.declared.rule.Term.TheVariants.{Var}
use Rattle.dcsp_rule.specs.declared.rule.Members.{Members}
use Rattle.dcsp_rule.specs.declared.rule.Members.TheVariants as members
use Rattle.dcsp_rule.specs.declared.rule.Rule.TheVariants.{Plain}
use Rattle.dcsp_rule.specs.declared.output.Output.{Output}
use Rattle.dcsp_rule.specs.declared.output.Shape.TheVariants as shape
use Rattle.dcsp_common.specs.declared.limits.Which.{Which}
use Rattle.dcsp_common.specs.declared.limits.Which.TheVariants as which
use Rattle.dcsp_common.specs.Limits.{most}
use Rattle.dcsp_problem.specs.Outputs.{range_product}
use Rattle.dcsp_rule.specs.Problems.{Contents}
use Rattle.fzn_scope.specs.declared.names.Declared.{Declared}
use Rattle.fzn_scope.specs.declared.names.Declared.TheVariants as declared
use Rattle.fzn_token.specs.declared.refusal.Refusal.{Refusal}
use Rattle.fzn_token.specs.declared.refusal.Refusal.TheVariants as refusal
use Rattle.fzn_scope.specs.Checks.{◌>>=◌, refused_if}
use Rattle.fzn_scope.specs.Names.{Scope, declared_as}
use Rattle.fzn_scope.specs.Places.{one_of, list_of, count_of, set_of}
use Rattle.fzn_model.specs.Building.{with_variable, with_rule, with_output}

-- what the items so far gave: the names, the problem, and whether there was a constraint and a solve item
pub record SoFar : Type 0 where
  pub scope : Scope
  pub problem : Contents
  pub constrained : Bool
  pub solved : Bool

-- with one more name
abbrev pub named : SoFar → Contents → List ℕ → Declared → SoFar
named s problem name meant = record s { problem = problem; scope = s.scope ++ (name, meant) ∷ [] }

-- a count at a place that is at most its limit
abbrev pub within : Which → ℕ → ℕ → Result (Unit {0}) Refusal
within which count at = refused_if (nat_lt (most which) count) (refusal.Limit which count at)

-- a declaration stands before the constraints and the solve item
abbrev pub is_late : SoFar → Bool
is_late s = s.solved || s.constrained

-- what is checked of every declaration, first: where it stands, and that its name is new
abbrev pub declaration : SoFar → ℕ → ℕ → List ℕ → Result (Unit {0}) Refusal
declaration s at name_at name = do
  _ ← refused_if (is_late s) (refusal.Misplaced at)
  refused_if (is_some (declared_as s.scope name)) (refusal.Duplicate name_at)

-- whether values are Booleans
abbrev pub is_boolean : Base → Bool
is_boolean base.Bool = true
is_boolean base.Int = false
is_boolean base.Float = false
is_boolean base.Set = false
is_boolean (base.Range low high) = false
is_boolean (base.Listed values) = false

-- a right side that there must be
abbrev pub right_side : ℕ → Option Expr → Result Expr Refusal
right_side at None = Err (refusal.IllTyped at)
right_side at (Some expr) = Ok expr

-- ---- parameters

-- the constant of a right side
abbrev pub constant : List ℕ → Scope → Bool → Expr → Result Declared Refusal
constant text scope boolean expr = do
  term ← one_of text scope (record { boolean = boolean; constant = true }) expr
  Ok (declared.One boolean term)

-- a parameter's value: a constant, or a set
abbrev pub value_of : List ℕ → Scope → ℕ → Base → Expr → Result Declared Refusal
value_of text scope at base.Bool expr = constant text scope true expr
value_of text scope at base.Int expr = constant text scope false expr
value_of text scope at (base.Range low high) expr = constant text scope false expr
value_of text scope at (base.Listed values) expr = constant text scope false expr
value_of text scope at base.Float expr = Err (refusal.Unsupported at)
value_of text scope at base.Set expr = do
  set ← set_of text scope expr
  Ok (declared.Set set)

-- a parameter adds its name
unfoldable pub parameter : List ℕ → SoFar → ℕ → Base → ℕ → List ℕ → Option Expr → Result SoFar Refusal
parameter text s at base name_at name right = do
  expr ← right_side name_at right
  value ← value_of text s.scope at base expr
  Ok (named s s.problem name value)

-- ---- variables

-- the domain of a variable. `var int` has no bounds, and floats and sets are no domains
abbrev pub domain_of : ℕ → Base → Result (List ℤ) Refusal
domain_of at base.Bool = Ok (pos 0 ∷ pos 1 ∷ [])
domain_of at base.Int = Err (refusal.Unbounded at)
domain_of at base.Float = Err (refusal.Unsupported at)
domain_of at base.Set = Err (refusal.Unsupported at)
domain_of at (base.Range low high) = do
  _ ← within which.DomainSize (count_between low high) at
  Ok (numbers_between low high)
domain_of at (base.Listed values) = do
  _ ← within which.DomainSize (length (values_of values)) at
  Ok (values_of values)

-- what a variable is equal to, if it has a right side
abbrev pub source_of : List ℕ → Scope → Bool → Option Expr → Result (Option Term) Refusal
source_of text scope boolean None = Ok None
source_of text scope boolean (Some expr) = do
  term ← one_of text scope (record { boolean = boolean; constant = false }) expr
  Ok (Some term)

-- equality of integers or of Booleans
abbrev pub equality : Bool → ConstraintKind
equality true = BoolEq
equality false = IntEq

-- a variable is equal to its right side, if it has one
abbrev pub with_source : ℕ → Contents → Bool → ℕ → Option Term → Result Contents Refusal
with_source at problem boolean number None = Ok problem
with_source at problem boolean number (Some source) =
    with_rule at problem (Plain (equality boolean) (Var number ∷ source ∷ []) [] [] (members.Listed []))

-- what is printed for a variable: its value, where it is marked by `output_var`
abbrev pub variable_output : List ℕ → Bool → ℕ → Marked → Option Output
variable_output name boolean number marked.Nothing = None
variable_output name boolean number marked.Variable = Some (record { name = name; boolean = boolean; shape = shape.One; terms = Var number ∷ [] })
variable_output name boolean number (marked.Ranges ranges) = None
variable_output name boolean number marked.Wrong = None

-- a variable adds itself, the rule that it is equal to its right side, what is printed, and its name
unfoldable pub variable : List ℕ → SoFar → ℕ → Base → ℕ → List ℕ → Marked → Option Expr → Result SoFar Refusal
variable text s at base name_at name marked right = do
  domain ← domain_of at base
  source ← source_of text s.scope (is_boolean base) right
  widened ← with_variable name_at s.problem domain
  ruled ← with_source name_at widened (is_boolean base) (length s.problem.domains) source
  Ok (named s (with_output ruled (variable_output name (is_boolean base) (length s.problem.domains) marked)) name (declared.One (is_boolean base) (Var (length s.problem.domains))))

-- ---- arrays

-- floats and sets are no elements of arrays
abbrev pub check_element : ℕ → Base → Result (Unit {0}) Refusal
check_element at base.Bool = Ok tt
check_element at base.Int = Ok tt
check_element at base.Float = Err (refusal.Unsupported at)
check_element at base.Set = Err (refusal.Unsupported at)
check_element at (base.Range low high) = Ok tt
check_element at (base.Listed values) = Ok tt

-- the set that each element of an array of variables is in, if its type says one
abbrev pub element_set : Base → Option Members
element_set base.Bool = None
element_set base.Int = None
element_set base.Float = None
element_set base.Set = None
element_set (base.Range low high) = Some (members.Between low high)
element_set (base.Listed values) = Some (members.Listed values)

-- whether an index goes from 1 to so many
abbrev pub is_index : ℤ × ℤ → ℕ → Bool
is_index index count = int_eq index.0 (pos 1) && int_eq index.1 (pos count)

-- whether an array of so many elements can be printed as its mark says: in one to six ranges whose sizes have this product
abbrev pub is_shaped : Marked → ℕ → Bool
is_shaped marked.Nothing count = true
is_shaped marked.Variable count = true
is_shaped marked.Wrong count = false
is_shaped (marked.Ranges ranges) count = nat_le 1 (length ranges) && nat_le (length ranges) 6 && (range_product ranges == count)

-- a term is in the set, if there is one
abbrev pub with_member : ℕ → Contents → Option Members → Term → Result Contents Refusal
with_member at problem None term = Ok problem
with_member at problem (Some set) term = with_rule at problem (Plain SetIn (term ∷ []) [] [] set)

-- each of these terms is
abbrev pub with_members : ℕ → Contents → Option Members → List Term → Result Contents Refusal
with_members at problem set [] = Ok problem
with_members at problem set (term ∷ terms) = do
  next ← with_member at problem set term
  with_members at next set terms

-- each element is, where the array is of variables
abbrev pub with_set : Bool → ℕ → Contents → Option Members → List Term → Result Contents Refusal
with_set variable at problem set terms = if variable then with_members at problem set terms else Ok problem

-- what is printed for an array of variables: its elements, where it is marked by `output_array`
abbrev pub array_output : List ℕ → Bool → Bool → Marked → List Term → Option Output
array_output name variable boolean marked.Nothing terms = None
array_output name variable boolean marked.Variable terms = None
array_output name variable boolean marked.Wrong terms = None
array_output name variable boolean (marked.Ranges ranges) terms =
    if variable then Some (record { name = name; boolean = boolean; shape = shape.Ranges ranges; terms = terms }) else None

-- the elements of an array: a list or the name of an array, as many as the index says, each of the element type
unfoldable pub elements : List ℕ → Scope → Bool → Base → ℤ × ℤ → ℕ → Expr → Result (List Term) Refusal
elements text scope variable base index name_at expr = do
  count ← count_of text scope expr
  _ ← refused_if (not (is_index index count)) (refusal.IllTyped name_at)
  list_of text scope (record { boolean = is_boolean base; constant = not variable }) expr

-- an array adds a rule for each element whose type is a set, what is printed, and its name
unfoldable pub array : List ℕ → SoFar → ℕ → Bool → ℤ × ℤ → Base → ℕ → List ℕ → Marked → Option Expr → Result SoFar Refusal
array text s at variable index base name_at name marked right = do
  _ ← check_element at base
  expr ← right_side name_at right
  terms ← elements text s.scope variable base index name_at expr
  _ ← refused_if (variable && not (is_shaped marked (length terms))) (refusal.OutputShape name_at)
  _ ← within which.Elements (length terms) name_at
  ruled ← with_set variable name_at s.problem (element_set base) terms
  Ok (named s (with_output ruled (array_output name variable (is_boolean base) marked terms)) name (declared.Many (is_boolean base) variable terms))
