use Rattle.std.proofs.Common.{◌≡◌, ◌≤◌, ℕ, true, length, take, if◌then◌else◌}
use Rattle.abt_defs.specs.Steps.{is_named}
use Rattle.abt_parts.specs.Places.{without_last}
use Rattle.abt_parts.specs.Index.{list_of}
use Rattle.abt_parts.proofs.naming.unname_item.Given as goal

abbrev pub invariant-loop-pair : goal.invariant-loop-pair
invariant-loop-pair l = record {
  places : (var : ℕ) → (list_of l.lists.items var).items ≡ (if is_named var (take l.pair-index l.pairs) then without_last (list_of l.initial.lists.items var).items else (list_of l.initial.lists.items var).items);
  capacity : (var : ℕ) → (list_of l.lists.items var).capacity ≡ (list_of l.initial.lists.items var).capacity;
  count : length l.lists.items ≡ length l.initial.lists.items;
  had_room : (var : ℕ) → is_named var (take l.pair-index l.pairs) ≡ true → length (list_of l.initial.lists.items var).items ≤ (list_of l.initial.lists.items var).capacity;
}
