use Rattle.std.proofs.Common.{◌≡◌, ℕ, ◌-◌, vec_len}
use Rattle.abt_parts.specs.Index.{list_of}
use Rattle.abt_parts.proofs.naming.add_lists.Given as goal

abbrev pub invariant-loop-alloc : goal.invariant-loop-alloc
invariant-loop-alloc l = (v : ℕ) → (list_of l.lists.items v).items ≡ (list_of l.initial.lists.items v).items

abbrev pub decreases-loop-alloc : goal.decreases-loop-alloc
decreases-loop-alloc l = l.count - vec_len l.lists
