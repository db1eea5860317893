use Rattle.std.proofs.Common.{◌++◌, ◌∷◌, [], ap, ◌∙◌}
use Rattle.abt_network.proofs.Posting.{post_step, first_stamped}
use Rattle.abt_network.proofs.post.post_each.Goals as goal

pub post_one-requires-clause-stamps : goal.post_one-requires-clause-stamps
post_one-requires-clause-stamps c = first_stamped c.loop-sent.out c.in-Some.sent c.loop-sent.invariant.stamps c.in-Some.ensures.first

pub loop-sent-preserved : goal.loop-sent-preserved
loop-sent-preserved c =
    post_step c.args.links.now c.loop-sent.links c.post_one.new.links c.args.from c.args.out.now c.loop-sent.out c.take_first.new.self c.args.told.now.items c.loop-sent.told.items c.add_told.new.told.items c.in-Some.sent c.loop-sent.invariant
    (c.in_ok-add_told.ensures ∙ ap (λ h. c.loop-sent.told.items ++ h ∷ []) c.told-heading.ensures) c.in-Some.ensures.first c.in-Some.ensures.rest
    c.in_ok-post_one.ensures.agents c.in_ok-post_one.ensures.lists c.in_ok-post_one.ensures.stamped
