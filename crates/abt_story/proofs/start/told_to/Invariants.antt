use Rattle.std.proofs.Common.{◌≡◌, map, take}
use Rattle.abt_story.specs.Looking.{tell_to}
use Rattle.abt_story.proofs.start.told_to.Given as goal

abbrev pub invariant-loop-to : goal.invariant-loop-to
invariant-loop-to l = l.sent.items ≡ map tell_to (take l.to-index l.receivers)
