use Rattle.std.proofs.Common.{◌≡◌, ◌++◌, drop, map}
use Rattle.dcsp_gen.proofs.lists.push_pairs.Given as goal

abbrev pub invariant-loop-second : goal.invariant-loop-second
invariant-loop-second l = l.pairs.items ++ map (λ second. (l.first, second)) (drop l.second-index l.later) ≡ l.initial.pairs.items ++ map (λ second. (l.first, second)) l.later
