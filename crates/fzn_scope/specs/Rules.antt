-- From a constraint's arguments to its rule.
use Rattle.std.specs.Prelude.{ℕ, ℤ, pos, ◌==◌, Bool, true, false, not, ◌||◌, List, [], ◌∷◌, ◌++◌, map, length, slice_index_or, Option, Some, None, Result, Ok, Err}
use Rattle.fzn_item.specs.declared.item.Expr.{Expr}
use Rattle.dcsp_meaning.specs.declared.kinds.ConstraintKind.{ConstraintKind}
use Rattle.dcsp_meaning.specs.declared.kinds.ConstraintKind.TheVariants as kind
use Rattle.dcsp_meaning.specs.Rows.{is_table}
use Rattle.dcsp_meaning.specs.Table.{plain_of}
use Rattle.dcsp_rule.specs.declared.rule.Term.{Term}
use Rattle.dcsp_rule.specs.declared.rule.Term.TheVariants.{Const, Var}
use Rattle.dcsp_rule.specs.declared.rule.Members.TheVariants.{Listed}
use Rattle.dcsp_rule.specs.declared.rule.Rule.{Rule}
use Rattle.dcsp_rule.specs.declared.rule.Rule.TheVariants as rule
use Rattle.fzn_scope.specs.declared.form.Place.{Place}
use Rattle.fzn_scope.specs.declared.form.Place.TheVariants.{Scalar, First, Second, Set}
use Rattle.fzn_scope.specs.declared.form.Form.{Form}
use Rattle.fzn_scope.specs.declared.form.Form.TheVariants.{Plain, Sum}
use Rattle.fzn_scope.specs.declared.lists.ArgumentLists.{ArgumentLists}
use Rattle.fzn_scope.specs.Arguments.{Arguments, arguments_in}
use Rattle.fzn_token.specs.declared.refusal.Refusal.{Refusal}
use Rattle.fzn_token.specs.declared.refusal.Refusal.TheVariants as refusal
use Rattle.fzn_scope.specs.Checks.{◌>>=◌, refused_if}
use Rattle.fzn_scope.specs.Names.{Scope}
use Rattle.fzn_scope.specs.Places.{one_of, list_of, set_of}
use Rattle.fzn_scope.specs.Forms.{places_of, form_named}

-- no arguments yet
abbrev pub no_arguments : Arguments
no_arguments = record { scalars = []; first = []; second = []; members = Listed [] }

-- the arguments with one more, at a place that asks for it
abbrev pub with_argument : List ℕ → Scope → Arguments → Place → Expr → Result Arguments Refusal
with_argument text scope done (Scalar boolean) expr = do
  term ← one_of text scope (record { boolean = boolean; constant = false }) expr
  Ok (record done { scalars = done.scalars ++ term ∷ [] })
with_argument text scope done (First wanted) expr = do
  terms ← list_of text scope wanted expr
  Ok (record done { first = terms })
with_argument text scope done (Second wanted) expr = do
  terms ← list_of text scope wanted expr
  Ok (record done { second = terms })
with_argument text scope done Set expr = do
  members ← set_of text scope expr
  Ok (record done { members = members })

-- the arguments at these places, from left to right, after those that were read before
abbrev pub arguments_after : List ℕ → Scope → Arguments → List Place → List Expr → Result Arguments Refusal
arguments_after text scope done [] exprs = Ok done
arguments_after text scope done (place ∷ places) [] = Ok done
arguments_after text scope done (place ∷ places) (expr ∷ exprs) = do
  next ← with_argument text scope done place expr
  arguments_after text scope next places exprs

-- a constant's value; nothing asks for a variable's
abbrev pub constant_of : Term → ℤ
constant_of (Const value) = value
constant_of (Var var) = pos 0

-- the scalar at a place, counted from 0
abbrev pub scalar_at : Arguments → ℕ → Term
scalar_at arguments place = slice_index_or arguments.scalars place (Const (pos 0))

-- the truth that a reified sum speaks of
abbrev pub truth_of : Bool → Arguments → Option Term
truth_of true arguments = Some (scalar_at arguments 1)
truth_of false arguments = None

-- the rule that these arguments make
abbrev pub rule_of : Form → Arguments → Rule
rule_of (Plain kind) arguments = rule.Plain kind arguments.scalars arguments.first arguments.second arguments.members
rule_of (Sum rel boolean reified) arguments =
    rule.Sum rel (map constant_of arguments.first) arguments.second (scalar_at arguments 0) (truth_of reified arguments)

-- the rule that lists make, whose coefficients stand there
abbrev pub rule_in : Form → ArgumentLists → Rule
rule_in (Plain kind) lists = rule_of (Plain kind) (arguments_in lists)
rule_in (Sum rel boolean reified) lists = rule.Sum rel lists.coefs.items lists.second.items (scalar_at (arguments_in lists) 0) (truth_of reified (arguments_in lists))

-- whether a constraint that is not reified takes a row and a table
abbrev pub takes_rows : ConstraintKind → Bool
takes_rows kind.FznTableInt = true
takes_rows kind.FznTableBool = true
takes_rows other = false

-- a table has whole rows that are as long as its row, which is not empty; a sum has as many coefficients as terms
abbrev pub lengths_agree : Form → Arguments → Bool
lengths_agree (Plain kind) arguments = not (takes_rows (plain_of kind)) || is_table (length arguments.first) (length arguments.second)
lengths_agree (Sum rel boolean reified) arguments = length arguments.first == length arguments.second

-- the form, if there is one, of a name at this place
abbrev pub known_form : ℕ → Option Form → Result Form Refusal
known_form at None = Err (refusal.UnknownConstraint at)
known_form at (Some form) = Ok form

-- the form of a constraint's name, which stands at this place
abbrev pub form_at : ℕ → List ℕ → Result Form Refusal
form_at at name = known_form at (form_named name)

-- the rule of a constraint: its name, which stands at this place; how many arguments it takes; the arguments from left to right; and lengths that agree
unfoldable pub constraint_rule : List ℕ → Scope → ℕ → List ℕ → List Expr → Result Rule Refusal
constraint_rule text scope at name exprs = do
  form ← form_at at name
  _ ← refused_if (not (length exprs == length (places_of form (length exprs)))) (refusal.IllTyped at)
  arguments ← arguments_after text scope no_arguments (places_of form (length exprs)) exprs
  _ ← refused_if (not (lengths_agree form arguments)) (refusal.IllTyped at)
  Ok (rule_of form arguments)
