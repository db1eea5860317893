use Rattle.std.proofs.Common.{◌≡◌, ℕ, ◌++◌, [], ◌∷◌, take, if◌then◌else◌}
use Rattle.abt_defs.specs.Steps.{is_named}
use Rattle.abt_parts.specs.Index.{list_of}
use Rattle.abt_parts.proofs.naming.name_item.Given as goal

abbrev pub invariant-loop-pair : goal.invariant-loop-pair
invariant-loop-pair l =
    ((var : ℕ) → (list_of l.lists.items var).items ≡ (if is_named var (take l.pair-index l.pairs) then (list_of l.initial.lists.items var).items ++ l.place ∷ [] else (list_of l.initial.lists.items var).items))
    × ((var : ℕ) → (list_of l.lists.items var).capacity ≡ (list_of l.initial.lists.items var).capacity)
