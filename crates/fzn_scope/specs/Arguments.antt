-- The arguments of a constraint, and the lists that they are read into.
use Rattle.std.specs.Prelude.{ℤ, List, Option, Some, None}
use Rattle.dcsp_rule.specs.declared.rule.Term.{Term}
use Rattle.dcsp_rule.specs.declared.rule.Members.{Members}
use Rattle.dcsp_rule.specs.declared.rule.Members.TheVariants.{Between, Listed}
use Rattle.fzn_scope.specs.declared.lists.SetList.{SetList}
use Rattle.fzn_scope.specs.declared.lists.ArgumentLists.{ArgumentLists}

-- what the arguments of a constraint are: scalars, two lists and a set, each empty where there is none
pub record Arguments : Type 0 where
  pub scalars : List Term
  pub first : List Term
  pub second : List Term
  pub members : Members

-- the set of these ends, or else of these numbers
abbrev pub members_or : Option (ℤ × ℤ) → List ℤ → Members
members_or (Some ends) numbers = Between ends.0 ends.1
members_or None numbers = Listed numbers

-- the set that a list holds
abbrev pub members_in : SetList → Members
members_in set = members_or set.range set.numbers.items

-- the arguments that lists hold
abbrev pub arguments_in : ArgumentLists → Arguments
arguments_in lists = record { scalars = lists.scalars.items; first = lists.first.items; second = lists.second.items; members = members_in lists.set }
