use Rattle.std.proofs.Common.{◌≡◌, ◌++◌, map}
use Rattle.dcsp_defs.specs.declared.nogood.Pair.{Pair}
use Rattle.abt_agent.specs.States.{stands_for}
use Rattle.abt_story.specs.Looking.{known_at}
use Rattle.abt_story.proofs.Named.{first_named}
use Rattle.abt_story.proofs.before.add_by_numbers.Given as goal

abbrev pub invariant-loop-number : goal.invariant-loop-number
invariant-loop-number l = l.known.items ≡ l.initial.known.items ++ map (known_at (stands_for l.agent).view) (first_named l.order (map (λ (y : Pair). y.var) l.nogood) l.number)
