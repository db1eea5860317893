use Rattle.std.proofs.Common.{◌≡◌, ◌++◌, take}
use Rattle.std.specs.List.{flat_map}
use Rattle.abt_story.specs.Telling.{ruled_out}
use Rattle.abt_story.specs.Texts.{ruled_text}
use Rattle.abt_story.specs.Looking.{reason_in}
use Rattle.abt_story.proofs.reasons.push_values.Given as goal

abbrev pub invariant-loop-place : goal.invariant-loop-place
invariant-loop-place l = l.into.items ≡ l.initial.into.items ++ flat_map ruled_text (ruled_out (take l.place l.domain) (reason_in l.agent))
