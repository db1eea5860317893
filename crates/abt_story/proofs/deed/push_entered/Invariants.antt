use Rattle.std.proofs.Common.{◌≡◌, ◌++◌, take}
use Rattle.std.specs.List.{flat_map}
use Rattle.std.specs.Prelude.{option_copied}
use Rattle.abt_agent.specs.States.{stands_for}
use Rattle.abt_story.specs.Numbers.{facts_told}
use Rattle.abt_story.specs.Telling.{enters}
use Rattle.abt_story.specs.Texts.{facts_text}
use Rattle.abt_story.specs.declared.before.Known.{Known}
use Rattle.abt_story.proofs.deed.push_entered.Given as goal

abbrev pub invariant-loop-seen : goal.invariant-loop-seen
invariant-loop-seen l =
    l.into.items ≡ l.initial.into.items ++ flat_map (λ (x : Known). facts_text l.who.event l.who.agent (facts_told (option_copied l.order) (enters x.var x.stamp ((stands_for l.agent).view x.var)))) (take l.seen-index l.known)
