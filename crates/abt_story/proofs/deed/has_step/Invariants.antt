use Rattle.std.proofs.Common.{◌≡◌, drop}
use Rattle.abt_defs.specs.Agents.{is_among}
use Rattle.abt_story.specs.Looking.{steps_in}
use Rattle.abt_story.proofs.deed.has_step.Given as goal

abbrev pub invariant-loop-recorded : goal.invariant-loop-recorded
invariant-loop-recorded l = is_among l.step (steps_in l.kept) ≡ is_among l.step (steps_in (drop l.recorded-index l.kept))
