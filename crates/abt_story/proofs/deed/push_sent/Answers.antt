use Rattle.std.proofs.Common.{◌∙◌, ◌∷◌, ◌++◌, [], List, ℕ, ap, arith, sym}
use Rattle.std.specs.List.{flat_map}
use Rattle.std.specs.Prelude.{option_copied}
use Rattle.std.proofs.lemmas.List.{take_all}
use Rattle.abt_parts.specs.declared.message.SentTo.{SentTo}
use Rattle.dcsp_order.specs.Told.{number_told}
use Rattle.abt_story.specs.Facts.{Sends}
use Rattle.abt_story.specs.Texts.{facts_text}
use Rattle.abt_story.specs.Looking.{cargo_by}
use Rattle.abt_story.proofs.Growing.{told_each}
use Rattle.abt_story.proofs.deed.push_sent.Goals as goal

pub returns : goal.returns
returns c =
    let deed = c.args.deed.now in
    let order = option_copied deed.order in
    let sent : List SentTo = deed.sent.now in
    let old : List ℕ = c.args.into.now.items in
    let told = λ (x : SentTo). facts_text deed.who.event deed.who.agent (Sends (number_told order x.to) (cargo_by x.kind c.args.value deed.made) ∷ []) in
    c.loop-message.invariant ∙ ap (λ (l : List SentTo). old ++ flat_map told l) (take_all c.loop-message.message-index sent (omega arith))
    ∙ ap (λ (t : List ℕ). old ++ t) (sym (told_each order deed.who.event deed.who.agent (λ (x : SentTo). Sends x.to (cargo_by x.kind c.args.value deed.made)) sent))
