-- The checks of a constraint's arguments.
use Rattle.std.specs.Prelude.{ℕ, ◌+◌, ◌*◌, ◌==◌, Bool, true, false, not, ◌&&◌, ◌||◌, List, [], ◌∷◌, length, flat_map, sum_by, zip, nat_lt, slice_index_or, Option, Some, None}
use Rattle.std.specs.List.{list_all}
use Rattle.fzn_item.specs.declared.item.Expr.{Expr}
use Rattle.dcsp_meaning.specs.Rows.{is_table}
use Rattle.dcsp_meaning.specs.Sums.{widest}
use Rattle.dcsp_meaning.specs.Table.{plain_of}
use Rattle.dcsp_common.specs.declared.limits.Which.{Which}
use Rattle.dcsp_common.specs.declared.limits.Which.TheVariants.{Elements}
use Rattle.dcsp_common.specs.Limits.{most}
use Rattle.fzn_scope.specs.declared.form.Place.{Place}
use Rattle.fzn_scope.specs.declared.form.Place.TheVariants as place
use Rattle.fzn_scope.specs.declared.form.Form.{Form}
use Rattle.fzn_scope.specs.declared.form.Form.TheVariants.{Plain, Sum}
use Rattle.fzn_scope.specs.Forms.{places_of}
use Rattle.fzn_scope.specs.Rules.{takes_rows}
use Rattle.law_inputs.specs.Sorts.{Names, one_suits, one_size, list_suits, list_sizes, set_suits, set_count}

-- whether a count does not pass its limit
abbrev pub is_within : Which → ℕ → Bool
is_within which count = not (nat_lt (most which) count)

-- whether an argument suits its place
abbrev pub place_suits : List ℕ → Names → Place → Expr → Bool
place_suits text names (place.Scalar boolean) expr = one_suits text names (record { boolean = boolean; constant = false }) expr
place_suits text names (place.First wanted) expr = list_suits text names wanted expr
place_suits text names (place.Second wanted) expr = list_suits text names wanted expr
place_suits text names place.Set expr = set_suits text names expr

-- whether each argument does
abbrev pub all_suit : List ℕ → Names → List Place → List Expr → Bool
all_suit text names places exprs = list_all (λ (x : Place × Expr). place_suits text names x.0 x.1) (zip places exprs)

abbrev pub scalar_part : List ℕ → Names → Place → Expr → List ℕ
scalar_part text names (place.Scalar boolean) expr = one_size text names expr ∷ []
scalar_part text names (place.First wanted) expr = []
scalar_part text names (place.Second wanted) expr = []
scalar_part text names place.Set expr = []

abbrev pub first_part : List ℕ → Names → Place → Expr → List ℕ
first_part text names (place.Scalar boolean) expr = []
first_part text names (place.First wanted) expr = list_sizes text names expr
first_part text names (place.Second wanted) expr = []
first_part text names place.Set expr = []

abbrev pub second_part : List ℕ → Names → Place → Expr → List ℕ
second_part text names (place.Scalar boolean) expr = []
second_part text names (place.First wanted) expr = []
second_part text names (place.Second wanted) expr = list_sizes text names expr
second_part text names place.Set expr = []

abbrev pub set_part : List ℕ → Names → Place → Expr → ℕ
set_part text names (place.Scalar boolean) expr = 0
set_part text names (place.First wanted) expr = 0
set_part text names (place.Second wanted) expr = 0
set_part text names place.Set expr = set_count text names expr

-- the greatest absolute values of the single numbers among the arguments, of the elements of the first list, and of the second, and how many values their set lists
pub record Sizes : Type 0 where
  pub scalars : List ℕ
  pub first : List ℕ
  pub second : List ℕ
  pub members : ℕ

abbrev pub argument_sizes : List ℕ → Names → List Place → List Expr → Sizes
argument_sizes text names places exprs = record {
  scalars = flat_map (λ (x : Place × Expr). scalar_part text names x.0 x.1) (zip places exprs);
  first = flat_map (λ (x : Place × Expr). first_part text names x.0 x.1) (zip places exprs);
  second = flat_map (λ (x : Place × Expr). second_part text names x.0 x.1) (zip places exprs);
  members = sum_by (λ (x : Place × Expr). set_part text names x.0 x.1) (zip places exprs);
}

-- whether a table has whole rows that are as long as its row, which is not empty, and a sum as many coefficients as terms
abbrev pub lengths_suit : Form → Sizes → Bool
lengths_suit (Plain kind) sizes = not (takes_rows (plain_of kind)) || is_table (length sizes.first) (length sizes.second)
lengths_suit (Sum rel boolean reified) sizes = length sizes.first == length sizes.second

-- the products of the numbers at each place of both lists, added up
abbrev pub products : List ℕ → List ℕ → ℕ
products [] ys = 0
products (x ∷ xs) [] = 0
products (x ∷ xs) (y ∷ ys) = x * y + products xs ys

-- how great the sides of a sum can become, taken together; 0 where there is no sum
abbrev pub width : Form → Sizes → ℕ
width (Plain kind) sizes = 0
width (Sum rel boolean reified) sizes = products sizes.first sizes.second + slice_index_or sizes.scalars 0 0

-- how many terms a constraint counts for. Coefficients count nothing; the total counts, and the truth of a reified sum
abbrev pub form_size : Form → Sizes → ℕ
form_size (Plain kind) sizes = length sizes.scalars + length sizes.first + length sizes.second + sizes.members
form_size (Sum rel boolean true) sizes = length sizes.second + 2
form_size (Sum rel boolean false) sizes = length sizes.second + 1

-- whether the arguments of a constraint of this form pass their checks
abbrev pub form_suits : List ℕ → Names → Form → List Place → List Expr → Bool
form_suits text names form places exprs =
    (length exprs == length places)
    && all_suit text names places exprs
    && lengths_suit form (argument_sizes text names places exprs)
    && not (nat_lt widest (width form (argument_sizes text names places exprs)))
    && is_within Elements (length (argument_sizes text names places exprs).first)
    && is_within Elements (length (argument_sizes text names places exprs).second)

-- whether a constraint has a form by its name, and the arguments suit it
abbrev pub constraint_suits : List ℕ → Names → Option Form → List Expr → Bool
constraint_suits text names None exprs = false
constraint_suits text names (Some form) exprs = form_suits text names form (places_of form (length exprs)) exprs

-- how many terms it counts for
abbrev pub constraint_size : List ℕ → Names → Option Form → List Expr → ℕ
constraint_size text names None exprs = 0
constraint_size text names (Some form) exprs = form_size form (argument_sizes text names (places_of form (length exprs)) exprs)
