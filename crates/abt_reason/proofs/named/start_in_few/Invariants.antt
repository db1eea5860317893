use Rattle.std.proofs.Common.{◌<◌, ℕ, slice_index_or}
use Rattle.abt_reason.specs.declared.named.Naming.{Naming}
use Rattle.abt_reason.proofs.named.start_in_few.Given as goal

abbrev pub invariant-loop-start : goal.invariant-loop-start
invariant-loop-start l = (k : ℕ) (d : Naming) → k < l.start → (slice_index_or l.namings k d).var < l.var
