-- What a run under an order tells, in the problem's own numbers.
use Rattle.std.specs.Prelude.{ℕ, List, length, Option}
use Rattle.std.specs.List.{filter_map}
use Rattle.std.specs.Option.{option_map}
use Rattle.dcsp_defs.specs.declared.nogood.Pair.{Pair}
use Rattle.dcsp_defs.specs.declared.Step.{Step}
use Rattle.dcsp_defs.specs.Pairs.{pair_of, value_at}
use Rattle.dcsp_defs.specs.Words.{below}
use Rattle.dcsp_order.specs.Orders.{number_at, place_of}

-- the pair of the variable with this number, where the pairs give its place a value
abbrev pub pair_at : List ℕ → List Pair → ℕ → Option Pair
pair_at order pairs number = option_map (pair_of number) (value_at pairs (place_of order number))

-- the pairs, rising by own numbers
abbrev pub pairs_renumbered : List ℕ → List Pair → List Pair
pairs_renumbered order pairs = filter_map (pair_at order pairs) (below (length order))

-- the step; its reasons stay, since domains keep their order and rules and steps their numbers
abbrev pub step_renumbered : List ℕ → Step → Step
step_renumbered order s = record {
  variable = option_map (number_at order) s.variable;
  nogood = pairs_renumbered order s.nogood;
  reasons = s.reasons;
}
