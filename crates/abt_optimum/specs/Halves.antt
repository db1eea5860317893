-- The value that a round is to better: the best one found, or by halves the one before the better half of the candidates.
use Rattle.std.specs.Prelude.{ℕ, zero, suc, ◌-◌, ◌/◌, ℤ, Bool, true, false, List, length, filter, Option, Some, None, slice_index_or}
use Rattle.dcsp_rule.specs.declared.aim.Aim.{Aim}
use Rattle.dcsp_rule.specs.declared.aim.Aim.TheVariants.{Satisfy, Least, Greatest}
use Rattle.dcsp_rule.specs.Aims.{is_better}

-- The rank of a value: how many of these are better than it. The best one's is 0.
abbrev pub rank : Aim → List ℤ → ℤ → ℕ
rank aim values value = length (filter (is_better aim value) values)

-- the one of these that has this rank, where they rise; another value where there are not so many
abbrev pub value_ranked : Aim → List ℤ → ℕ → ℤ → ℤ
value_ranked (Greatest term) values place otherwise = slice_index_or values (length values - 1 - place) otherwise
value_ranked (Least term) values place otherwise = slice_index_or values place otherwise
value_ranked Satisfy values place otherwise = slice_index_or values place otherwise

-- how many of these are excluded, where all that are better than a limit are
abbrev pub excluded : Aim → List ℤ → Option ℤ → ℕ
excluded aim values None = 0
excluded aim values (Some limit) = rank aim values limit

-- how many candidates there are: values that are better than the best one found and not excluded
abbrev pub candidates : Aim → List ℤ → ℤ → Option ℤ → ℕ
candidates aim values best limit = rank aim values best - excluded aim values limit

-- How many of so many candidates a round leaves out of those that it asks for: by halves one less than half of them, rounded up, and else none.
abbrev pub left_out : Bool → ℕ → ℕ
left_out true many = (many - 1) / 2
left_out false many = 0

-- the value that is so many ranks better than the best one found: that one itself where there are none
abbrev pub value_beyond : Aim → List ℤ → ℤ → ℕ → ℤ
value_beyond aim values best zero = best
value_beyond aim values best (suc n) = value_ranked aim values (rank aim values best - suc n) best

-- The value that the next round is to better: the best one found, or the best of the candidates that are left out.
abbrev pub next_value : Bool → Aim → List ℤ → ℤ → Option ℤ → ℤ
next_value halves aim values best limit = value_beyond aim values best (left_out halves (candidates aim values best limit))
