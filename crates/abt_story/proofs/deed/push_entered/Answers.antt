use Rattle.std.proofs.Common.{◌∙◌, ◌++◌, List, ℕ, ap, arith, sym}
use Rattle.std.specs.List.{flat_map}
use Rattle.std.specs.Prelude.{option_copied}
use Rattle.std.proofs.lemmas.List.{take_all}
use Rattle.abt_agent.specs.States.{stands_for}
use Rattle.abt_story.specs.Numbers.{facts_told}
use Rattle.abt_story.specs.Telling.{enters}
use Rattle.abt_story.specs.Texts.{facts_text}
use Rattle.abt_story.specs.declared.before.Known.{Known}
use Rattle.abt_story.proofs.Growing.{told_items}
use Rattle.abt_story.proofs.deed.push_entered.Goals as goal

pub returns : goal.returns
returns c =
    let order = option_copied c.args.order in
    let view = (stands_for c.args.agent.now).view in
    let known : List Known = c.args.known.now in
    let old : List ℕ = c.args.into.now.items in
    let told = λ (x : Known). facts_text c.args.who.event c.args.who.agent (facts_told order (enters x.var x.stamp (view x.var))) in
    c.loop-seen.invariant ∙ ap (λ (l : List Known). old ++ flat_map told l) (take_all c.loop-seen.seen-index known (omega arith))
    ∙ ap (λ (t : List ℕ). old ++ t) (sym (told_items order c.args.who.event c.args.who.agent (λ (x : Known). enters x.var x.stamp (view x.var)) known))
