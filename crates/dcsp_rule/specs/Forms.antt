-- Rules made ready to be tested.
use Rattle.std.specs.Prelude.{◌≡◌, ℕ, ◌<◌, ℤ, Bool, false, ◌&&◌, List, map, length, slice_index_or, int_le, Option, Some, None, IfSome, IsSome, IsTrue}
use Rattle.dcsp_domain.specs.Sets.{has}
use Rattle.dcsp_meaning.specs.Table.{truth}
use Rattle.dcsp_defs.specs.Csp.{Assignment}
use Rattle.dcsp_rule.specs.declared.rule.Members.{Members}
use Rattle.dcsp_rule.specs.declared.rule.Members.TheVariants.{Between, Listed}
use Rattle.dcsp_rule.specs.declared.rule.Rule.{Rule}
use Rattle.dcsp_rule.specs.declared.rule.Rule.TheVariants.{Plain, Sum}
use Rattle.dcsp_rule.specs.declared.pair.BinaryRule.{BinaryRule}
use Rattle.dcsp_rule.specs.declared.form.Form.{Form}
use Rattle.dcsp_rule.specs.declared.form.Form.TheVariants as form
use Rattle.dcsp_rule.specs.Rules.{rule_truth, value_under, no_rule}
use Rattle.dcsp_rule.specs.Pairs.{compares_variable, pair_truth, widened, IsPairOf, IsSmallSum}

-- the pair that a form is, if it is one
abbrev pub pair_in : Form → Option BinaryRule
pair_in (form.Narrow pair) = Some (widened pair)
pair_in (form.Wide pair) = Some pair.value
pair_in (form.Listed set) = None
pair_in form.Plain = None

-- whether the number is in the form's set; none is where it has no set
abbrev pub form_has : Form → ℤ → Bool
form_has (form.Narrow pair) value = false
form_has (form.Wide pair) value = false
form_has (form.Listed set) value = has set value
form_has form.Plain value = false

-- whether the number is a member, where this test finds those that are listed
abbrev pub is_found_by : (ℤ → Bool) → Members → ℤ → Bool
is_found_by found (Between low high) value = int_le low value && int_le value high
is_found_by found (Listed values) value = found value

-- whether the rule holds, where this test finds its listed members
abbrev pub found_truth : (ℤ → Bool) → Rule → Assignment → Bool
found_truth found (Plain kind scalars first second members) values =
    truth kind (map (value_under values) scalars) (map (value_under values) first) (map (value_under values) second) (is_found_by found members)
found_truth found (Sum rel coefs terms total told) values = rule_truth (Sum rel coefs terms total told) values

-- whether the rule holds where it is looked at by its pair, if it has one, and else by its form's set
abbrev pub pair_or_truth : Option BinaryRule → (ℤ → Bool) → Rule → Assignment → Bool
pair_or_truth None found rule values = found_truth found rule values
pair_or_truth (Some pair) found rule values = pair_truth pair values

-- whether the form of a rule is true where the variables have these values
abbrev pub form_truth : Form → Rule → Assignment → Bool
form_truth form rule values = pair_or_truth (pair_in form) (form_has form) rule values

-- the form finds the members that the rule lists
abbrev pub LooksUp : Rule → Form → Type 0
LooksUp rule form = (pair_in form ≡ None) × ((values : Assignment) → found_truth (form_has form) rule values ≡ rule_truth rule values)

-- the form is true where the rule is; where it is a pair it has the same variables; where two numbers are compared, or the rule is a small sum, it is one
pub record IsFormOf (form : Form) (rule : Rule) : Type 0 where
  pub truth : (values : Assignment) → form_truth form rule values ≡ rule_truth rule values
  pub pair : IfSome (pair_in form) (λ pair. IsPairOf pair rule)
  pub compared : IsTrue (compares_variable rule) → IsSome (pair_in form)
  pub summed : (v w : ℕ) → IsSmallSum v w rule → IsSome (pair_in form)

-- each rule has its form
pub record AreForms (forms : List Form) (rules : List Rule) : Type 0 where
  pub many : length forms ≡ length rules
  pub each : (k : ℕ) → k < length rules → IsFormOf (slice_index_or forms k form.Plain) (slice_index_or rules k no_rule)
