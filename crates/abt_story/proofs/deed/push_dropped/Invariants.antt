use Rattle.std.proofs.Common.{◌≡◌, ◌++◌, take}
use Rattle.abt_story.specs.Telling.{drops}
use Rattle.abt_story.specs.Texts.{facts_text}
use Rattle.abt_story.specs.Looking.{steps_in}
use Rattle.abt_story.proofs.deed.push_dropped.Given as goal

abbrev pub invariant-loop-step : goal.invariant-loop-step
invariant-loop-step l = l.into.items ≡ l.initial.into.items ++ facts_text l.who.event l.who.agent (drops (take l.step-index l.before) (steps_in l.after))
