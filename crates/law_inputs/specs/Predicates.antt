-- Predicate items add nothing.
use Rattle.std.specs.Prelude.{◌≡◌, ℕ, Bool, true, false, not, List, Ok, filter}
use Rattle.fzn_item.specs.declared.item.Item.{Item}
use Rattle.fzn_item.specs.declared.item.Item.TheVariants as item
use Rattle.dcsp_rule.specs.Problems.{Contents}
use Rattle.fzn_model.specs.Items.{resolved}

-- whether the item declares a predicate
abbrev pub is_predicate : Item → Bool
is_predicate (item.Predicate at) = true
is_predicate (item.Declare at isvar index type name_at name_to marked right) = false
is_predicate (item.Constraint at name_at name_to arguments) = false
is_predicate (item.Solve at goal) = false

-- the other items, in order
abbrev pub without_predicates : List Item → List Item
without_predicates items = filter (λ (i : Item). not (is_predicate i)) items

-- Items that have a problem have the same one without their predicates.
abbrev pub PredicatesAreIgnored : Type 0
PredicatesAreIgnored = (text : List ℕ) (items : List Item) (problem : Contents) → resolved text items ≡ Ok problem → resolved text (without_predicates items) ≡ Ok problem
