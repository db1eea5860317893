use Rattle.std.proofs.Common.{◌∙◌, rules}
use Rattle.abt_story.proofs.Deeds.{none_each}
use Rattle.abt_story.proofs.before.fresh.Goals as goal

pub returns-clause-reasons : goal.returns-clause-reasons
returns-clause-reasons c = c.in_ok-reasons.ensures.items_if_clones_equal (λ y h. search rules) ∙ none_each c.args.domain.now c.len.result c.len.ensures.len
