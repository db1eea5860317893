use Rattle.std.proofs.Common.{◌≡◌, false, take}
use Rattle.std.specs.List.{list_any}
use Rattle.abt_defs.specs.Measures.{is_pair}
use Rattle.abt_measure.proofs.learned.has_pair.Given as goal

abbrev pub invariant-loop-known : goal.invariant-loop-known
invariant-loop-known l = list_any (is_pair l.pair) (take l.known-index l.pairs) ≡ false
