use Rattle.std.proofs.Common.{◌≡◌, ℕ, ◌<◌, ◌++◌, [], ◌∷◌, length, if◌then◌else◌, take}
use Rattle.dcsp_defs.specs.Pairs.{var_at}
use Rattle.abt_defs.specs.Steps.{is_named}
use Rattle.abt_parts.specs.Index.{list_of}
use Rattle.abt_parts.proofs.naming.add_name.Given as goal

abbrev pub invariant-loop-at : goal.invariant-loop-at
invariant-loop-at l = record {
  places : (var : ℕ) → (list_of l.lists.items var).items ≡ (if is_named var (take l.at l.pairs) then (list_of l.fn.lists.items var).items ++ l.place ∷ [] else (list_of l.fn.lists.items var).items);
  there : (j : ℕ) → j < length l.pairs → var_at l.pairs j < length l.lists.items;
}
