use Rattle.std.proofs.Common.{◌≡◌, ℕ, ◌+◌, ◌-◌, length}
use Rattle.abt_links.specs.OpenPairs.{receivers_of}
use Rattle.abt_links.proofs.open_pairs.reach.Given as goal

abbrev pub invariant-loop-alloc : goal.invariant-loop-alloc
invariant-loop-alloc l = (k : ℕ) → receivers_of l.senders.items k ≡ receivers_of l.initial.senders.items k

abbrev pub decreases-loop-alloc : goal.decreases-loop-alloc
decreases-loop-alloc l = l.from + 1 - length l.senders.items
