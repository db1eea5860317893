use Rattle.std.proofs.Common.{◌≤◌, ◌<◌, ℕ, slice_index_or}
use Rattle.abt_reason.specs.declared.named.Naming.{Naming}
use Rattle.abt_reason.proofs.named.end_of.Given as goal

abbrev pub invariant-loop-end : goal.invariant-loop-end
invariant-loop-end l = (k : ℕ) (d : Naming) → k < l.end → (slice_index_or l.namings k d).var ≤ l.var
