use Rattle.std.proofs.Common.{◌≡◌, take}
use Rattle.abt_story.specs.Looking.{steps_in}
use Rattle.abt_story.proofs.before.steps_of.Given as goal

abbrev pub invariant-loop-recorded : goal.invariant-loop-recorded
invariant-loop-recorded l = l.steps.items ≡ steps_in (take l.recorded-index l.kept)
