-- What each item of a file says of the values of names.
use Rattle.std.specs.Prelude.{◌≡◌, ℕ, ℤ, pos, ◌||◌, ◌&&◌, Bool, true, false, List, map, zip, Option, Some, None, IfSome, int_le}
use Rattle.std.specs.Option.{option_map}
use Rattle.std.specs.Ordering.{int_eq}
use Rattle.fzn_item.specs.declared.item.Base.{Base}
use Rattle.fzn_item.specs.declared.item.Base.TheVariants as base
use Rattle.fzn_item.specs.declared.item.Item.{Item}
use Rattle.fzn_item.specs.declared.item.Item.TheVariants as item
use Rattle.dcsp_domain.specs.Sets.{has}
use Rattle.dcsp_meaning.specs.Sums.{sum_of, stands}
use Rattle.dcsp_meaning.specs.Table.{truth}
use Rattle.dcsp_meaning.specs.Words.{argument}
use Rattle.dcsp_defs.specs.Words.{In}
use Rattle.dcsp_rule.specs.Members.{is_member}
use Rattle.dcsp_rule.specs.Rules.{is_told}
use Rattle.fzn_scope.specs.declared.form.Form.{Form}
use Rattle.fzn_scope.specs.declared.form.Form.TheVariants.{Plain, Sum}
use Rattle.fzn_scope.specs.Names.{bytes_at}
use Rattle.fzn_scope.specs.Forms.{form_named}
use Rattle.law_subjects.specs.Environments.{Value, Number, Numbers, Environment, numbers, array_at, first_set, expr_value}

-- whether the number is in the set that the type is, where it is a range or a listed set
abbrev pub in_set : Base → ℤ → Bool
in_set base.Bool v = true
in_set base.Int v = true
in_set base.Float v = true
in_set base.Set v = true
in_set (base.Range low high) v = int_le low v && int_le v high
in_set (base.Listed values) v = has values v

-- whether the number is of the type: a Boolean is 0 or 1
abbrev pub in_type : Base → ℤ → Bool
in_type base.Bool v = int_eq v (pos 0) || int_eq v (pos 1)
in_type base.Int v = true
in_type base.Float v = true
in_type base.Set v = true
in_type (base.Range low high) v = in_set (base.Range low high) v
in_type (base.Listed values) v = in_set (base.Listed values) v

-- the value of a variable is a number of its type, and that of its right side if it has one
pub record IsVariable (type : Base) (right : Option Value) (value : Value) : Type 0 where
  pub number : ℤ
  pub single : value ≡ Number number
  pub typed : in_type type number ≡ true
  pub equal : IfSome right (λ other. value ≡ other)

-- the value of an array is that of its right side, and each element of an array of variables is in the set that its type is, if it is one. That a Boolean element is 0 or 1 is said where it is declared
pub record IsArray (variable : Bool) (type : Base) (right : Option Value) (value : Value) : Type 0 where
  pub equal : right ≡ Some value
  pub elements : variable ≡ true → (vs : List ℤ) (v : ℤ) → value ≡ Numbers vs → In v vs → in_set type v ≡ true

-- what a declaration says of the value of its name: of an array, of a variable, or of a parameter, which has the value of its right side
abbrev pub IsDeclared : Bool → Option (ℤ × ℤ) → Base → Option Value → Value → Type 0
IsDeclared variable (Some index) type right value = IsArray variable type right value
IsDeclared true None type right value = IsVariable type right value
IsDeclared false None type right value = right ≡ Some value

-- the number that tells the truth of a sum, where it is reified: the second of its numbers
abbrev pub told_truth : Bool → List ℤ → Option ℤ
told_truth true scalars = Some (argument scalars 1)
told_truth false scalars = None

-- whether a constraint of this form holds of its arguments: of their numbers, arrays and set, each kind in order. The first array of a sum is its coefficients, the second its terms, and its first number the total
abbrev pub form_truth : Form → List Value → Bool
form_truth (Plain kind) arguments = truth kind (numbers arguments) (array_at arguments 0) (array_at arguments 1) (is_member (first_set arguments))
form_truth (Sum rel boolean reified) arguments =
    is_told (told_truth reified (numbers arguments)) (stands rel (sum_of (zip (array_at arguments 0) (array_at arguments 1))) (argument (numbers arguments) 0))

-- whether a constraint holds, where this is the form of its name, if it has one
abbrev pub constraint_truth : Option Form → List Value → Bool
constraint_truth None arguments = false
constraint_truth (Some form) arguments = form_truth form arguments

-- what an item says of the values of names: predicates and solve items say nothing, a declaration speaks of its name, and a constraint holds of its arguments
abbrev pub Holds : List ℕ → Environment → Item → Type 0
Holds text env (item.Predicate at) = Unit {0}
Holds text env (item.Declare at variable index type name_at name_to marked right) = IsDeclared variable index type (option_map (expr_value text env) right) (env (bytes_at text name_at name_to))
Holds text env (item.Constraint at name_at name_to arguments) = constraint_truth (form_named (bytes_at text name_at name_to)) (map (expr_value text env) arguments) ≡ true
Holds text env (item.Solve at goal) = Unit {0}
