-- When a starved link delivers.
use Rattle.std.specs.Prelude.{◌≡◌, ℕ, ◌%◌, List, [], ◌∷◌, ◌++◌, length, slice_get, Some}
use Rattle.dcsp_defs.specs.Csp.{Csp}
use Rattle.abt_defs.specs.Network.{start, ready, run}
use Rattle.abt_defs.specs.Runs.{starved_choices}

-- A run that starves the link from a to b delivers from it only where no other list has a message.
abbrev pub StarvedComeLast : Csp → Type 0
StarvedComeLast p = (a b most : ℕ) (before after : List ℕ) (choice : ℕ)
    → starved_choices p a b most (start p) ≡ before ++ choice ∷ after
    → let lists = ready p (run p before (start p)) in
    slice_get lists (choice % length lists) ≡ Some (a, b) → lists ≡ (a, b) ∷ []
