use Rattle.std.proofs.Common.{◌≡◌, map, take}
use Rattle.abt_story.specs.Looking.{reason_in}
use Rattle.abt_story.proofs.before.reasons_of.Given as goal

abbrev pub invariant-loop-place : goal.invariant-loop-place
invariant-loop-place l = l.reasons.items ≡ map (reason_in l.agent) (take l.place l.domain)
