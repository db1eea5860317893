-- Rows of marks.
use Rattle.std.specs.Prelude.{ℕ, Bool, false, List, slice_index_or}
use Rattle.std.specs.List.{list_any}
use Rattle.abt_defs.specs.Agents.{is_among}
use Rattle.dcsp_rule.specs.Problems.{Contents, constraint_at}

-- what a row of marks says of k
abbrev pub has_mark : List Bool → ℕ → Bool
has_mark marks k = slice_index_or marks k false

-- one of the rules with these numbers names k
abbrev pub names_any : Contents → ℕ → List ℕ → Bool
names_any p k rules = list_any (λ (r : ℕ). is_among k (constraint_at p r).scope) rules
