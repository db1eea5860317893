-- A list of places, and how many it has room for.
use Rattle.std.specs.Prelude.{ℕ, ◌-◌, List, [], length, take}

pub record Places : Type 0 where
  pub items : List ℕ
  pub capacity : ℕ

-- what stands past the last list
abbrev pub no_places : Places
no_places = record { items = []; capacity = 0 }

-- all but the last of them
abbrev pub without_last : List ℕ → List ℕ
without_last places = take (length places - 1) places
