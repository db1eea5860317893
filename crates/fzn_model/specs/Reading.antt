-- What the parts of the reader hold and answer.
use Rattle.std.specs.Prelude.{◌≡◌, ◌⊎◌, ℕ, ℤ, ◌^◌, ◌<◌, nat_lt, not, ◌&&◌, List, length, Option, Some, None, Result, Ok, Err, if◌then◌else◌}
use Rattle.fzn_token.specs.declared.refusal.Refusal.{Refusal}
use Rattle.fzn_token.specs.declared.refusal.Refusal.TheVariants as refusal
use Rattle.fzn_token.specs.declared.refusal.ModelError.{ModelError}
use Rattle.fzn_token.specs.declared.refusal.ModelError.TheVariants as errors
use Rattle.dcsp_problem.specs.declared.limits.BuildError.{BuildError}
use Rattle.dcsp_problem.specs.declared.limits.BuildError.TheVariants as build
use Rattle.fzn_scope.specs.Checks.{◌>>=◌, refused_if}
use Rattle.fzn_scope.specs.Known.{AreKnown}
use Rattle.fzn_scope.specs.Names.{Scope}
use Rattle.dcsp_rule.specs.declared.rule.Term.{Term}
use Rattle.dcsp_rule.specs.declared.output.Output.{Output}
use Rattle.fzn_model.specs.declared.resolver.Resolver.{Resolver}
use Rattle.fzn_model.specs.declared.resolver.Constraint.{Constraint}
use Rattle.fzn_model.specs.declared.declaration.Declaration.{Declaration}
use Rattle.fzn_model.specs.declared.in_turn.Taken.{Taken}
use Rattle.fzn_token.specs.declared.token.Token.{Token}
use Rattle.fzn_token.specs.Reading as lexing
use Rattle.fzn_item.specs.Items as parsing
use Rattle.fzn_token.specs.declared.reader.TokenReader.{TokenReader}
use Rattle.fzn_token.specs.Reading.{Refuses, TakesRest}
use Rattle.fzn_item.specs.declared.item.Expr.{Expr}
use Rattle.fzn_item.specs.declared.item.Item.{Item}
use Rattle.fzn_item.specs.declared.lent.LentItem.{LentItem}
use Rattle.fzn_item.specs.Lent.{StandsFor}
use Rattle.dcsp_rule.specs.Problems.{Contents}
use Rattle.fzn_model.specs.Declarations.{SoFar, is_boolean, parameter, variable_output, variable, elements, is_shaped, array_output, array}
use Rattle.fzn_model.specs.Items.{declared_by, declare, constraint, start, after, after_all, finished}
use Rattle.fzn_model.specs.Models.{longest_text}

-- the builder's error, at a place
abbrev pub error_at : ℕ → BuildError → ModelError
error_at at (build.Limit which count) = errors.Refused (refusal.Limit which count at)
error_at at build.WideSum = errors.Refused (refusal.WideSum at)
error_at at build.Memory = errors.Memory

-- what the resolver holds
abbrev pub so_far : Resolver → SoFar
so_far r = record { scope = r.names; problem = r.builder; constrained = r.constrained; solved = r.solved }

-- each name stands for terms of variables that exist
abbrev pub IsSound : SoFar → Type 0
IsSound s = AreKnown (length s.problem.domains) s.scope

-- there is room for one more output: a text has no more of them than items, and no more items than bytes
abbrev pub HasRoom : Contents → Type 0
HasRoom problem = length problem.outputs < longest_text

-- what a parameter's declaration leaves
abbrev pub parameter_by : List ℕ → SoFar → Declaration → Result SoFar Refusal
parameter_by text s d = parameter text s d.at d.base.now d.name_at d.name.now d.right.now

-- what a variable's leaves
abbrev pub variable_by : List ℕ → SoFar → Declaration → Result SoFar Refusal
variable_by text s d = variable text s d.at d.base.now d.name_at d.name.now d.marked.now d.right.now

-- the elements of an array
abbrev pub elements_by : List ℕ → Scope → Declaration → ℤ × ℤ → Expr → Result (List Term) Refusal
elements_by text scope d index right = elements text scope d.variable d.base.now index d.name_at right

-- an array of variables, of so many elements, can be printed as its mark says
abbrev pub shape_by : Declaration → ℕ → Result (Unit {0}) Refusal
shape_by d count = refused_if (d.variable && not (is_shaped d.marked.now count)) (refusal.OutputShape d.name_at)

-- what is printed for a variable of this number
abbrev pub variable_output_by : Declaration → ℕ → Option Output
variable_output_by d number = variable_output d.name.now (is_boolean d.base.now) number d.marked.now

-- what is printed for an array of these elements
abbrev pub array_output_by : Declaration → List Term → Option Output
array_output_by d terms = array_output d.name.now d.variable (is_boolean d.base.now) d.marked.now terms

-- what an array's leaves, of variables or of parameters
abbrev pub array_by : List ℕ → SoFar → ℤ × ℤ → Declaration → Result SoFar Refusal
array_by text s index d = array text s d.at d.variable index d.base.now d.name_at d.name.now d.marked.now d.right.now

-- what the declaration of a new name leaves
abbrev pub named_by : List ℕ → SoFar → Declaration → Result SoFar Refusal
named_by text s d = declared_by text s d.at d.variable d.index d.base.now d.name_at d.name.now d.marked.now d.right.now

-- what any declaration leaves
abbrev pub declare_by : List ℕ → SoFar → Declaration → Result SoFar Refusal
declare_by text s d = declare text s d.at d.variable d.index d.base.now d.name_at d.name.now d.marked.now d.right.now

-- what a constraint of these expressions leaves
abbrev pub constraint_by : List ℕ → SoFar → Constraint → List Expr → Result SoFar Refusal
constraint_by text s c exprs = constraint text s c.at c.name_at c.name.now exprs

-- what is lent stands for some item
abbrev pub IsSomeItem : LentItem → Type 0
IsSomeItem lent = (i : Item) × StandsFor lent i

-- more than any array has elements
abbrev pub many : ℕ
many = 2 ^ 63

-- the number, or that many where it is greater
abbrev pub at_most_many : ℕ → ℕ
at_most_many n = if nat_lt many n then many else n

-- what the items so far gave, where this refusal was the first of them, or none
abbrev pub given_or : Option Refusal → SoFar → Result SoFar Refusal
given_or None s = Ok s
given_or (Some refusal) s = Err refusal

-- what the items so far gave, or the first refusal among them
abbrev pub gave : Taken → Result SoFar Refusal
gave taken = given_or taken.refused (so_far taken.resolver)

-- one item more, behind what the items so far gave
abbrev pub then_item : List ℕ → Result SoFar Refusal → Item → Result SoFar Refusal
then_item text given i = given >>= (λ s. after text s i)

-- the problem that the items gave
abbrev pub problem_given : Result SoFar Refusal → Result Contents Refusal
problem_given given = given >>= finished

-- its names stand for terms of variables that exist
abbrev pub IsSoundGiven : Result SoFar Refusal → Type 0
IsSoundGiven (Ok s) = IsSound s
IsSoundGiven (Err refusal) = Unit {0}

-- how many outputs it has
abbrev pub prints : Result SoFar Refusal → ℕ
prints (Ok s) = length s.problem.outputs
prints (Err refusal) = 0

-- all items of the text were taken, and this is what they gave
pub record AreAllTaken (text : List ℕ) (given : Result SoFar Refusal) : Type 0 where
  pub tokens : List Token
  pub items : List Item
  pub lexed : lexing.Answers text (Ok tokens)
  pub read : parsing.Answers text tokens (Ok items)
  pub resolved : after_all text start items ≡ given

-- why a text is refused whose next item gives this error, behind the tokens that were read: a token that is left, or else the item
abbrev pub LeavesUnread : TokenReader → ModelError → ModelError → Type 0
LeavesUnread reader error e = Refuses reader e ⊎ (TakesRest reader (Ok tt) × (e ≡ error))
