use Rattle.std.proofs.Common.{◌≡◌, ◌∷◌, ◌++◌, [], take}
use Rattle.std.specs.List.{flat_map}
use Rattle.std.specs.Prelude.{option_copied}
use Rattle.abt_parts.specs.declared.message.SentTo.{SentTo}
use Rattle.dcsp_order.specs.Told.{number_told}
use Rattle.abt_story.specs.Facts.{Sends}
use Rattle.abt_story.specs.Texts.{facts_text}
use Rattle.abt_story.specs.Looking.{cargo_by}
use Rattle.abt_story.proofs.deed.push_sent.Given as goal

abbrev pub invariant-loop-message : goal.invariant-loop-message
invariant-loop-message l =
    l.into.items ≡ l.initial.into.items ++ flat_map (λ (x : SentTo). facts_text l.deed.who.event l.deed.who.agent (Sends (number_told (option_copied l.deed.order) x.to) (cargo_by x.kind l.value l.deed.made) ∷ [])) (take l.message-index l.deed.sent.now)
