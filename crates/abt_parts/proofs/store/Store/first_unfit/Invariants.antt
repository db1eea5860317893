use Rattle.std.proofs.Common.{◌≡◌, ℕ, ◌<◌, true, get_or}
use Rattle.abt_parts.specs.declared.recorded.Recorded.{Recorded}
use Rattle.abt_parts.specs.Stores.{fits}
use Rattle.abt_parts.proofs.store.Store.first_unfit.Given as goal

abbrev pub invariant-loop-place : goal.invariant-loop-place
invariant-loop-place l = (j : ℕ) → j < l.place-index → (d : Recorded) → fits l.known.var l.known.value (get_or l.self-inside.items.items (get_or l.place-items j 0) d) ≡ true
