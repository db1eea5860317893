use Rattle.std.proofs.Common.{◌≡◌, ◌++◌, map, take}
use Rattle.dcsp_defs.specs.declared.nogood.Pair.{Pair}
use Rattle.abt_agent.specs.States.{stands_for}
use Rattle.abt_story.specs.Looking.{known_at}
use Rattle.abt_story.proofs.before.add_pairs.Given as goal

abbrev pub invariant-loop-pair : goal.invariant-loop-pair
invariant-loop-pair l = l.known.items ≡ l.initial.known.items ++ map (λ (y : Pair). known_at (stands_for l.agent).view y.var) (take l.pair-index l.pairs)
