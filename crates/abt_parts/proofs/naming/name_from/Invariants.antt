use Rattle.std.proofs.Common.{◌≡◌, ◌≤◌, ℕ, length, take}
use Rattle.abt_parts.specs.Stores.{places_naming}
use Rattle.abt_parts.specs.Index.{list_of, AreNamed}
use Rattle.abt_parts.proofs.naming.name_from.Given as goal

abbrev pub invariant-loop-place : goal.invariant-loop-place
invariant-loop-place l = record {
  named : AreNamed (take l.place l.items) l.lists.items;
  capacity : (var : ℕ) → (list_of l.lists.items var).capacity ≡ (list_of l.initial.lists.items var).capacity;
  least : (var : ℕ) → length (places_naming (take l.first l.items) var) ≤ length (list_of l.lists.items var).items;
}
