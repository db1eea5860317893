use Rattle.std.proofs.Common.{◌∙◌}
use Rattle.abt_agent.proofs.GivesUp.{gives_up_empty, gives_up}
use Rattle.abt_agent.proofs.body.AgentBody.give_up.Goals as goal

pub returns-in-None-clause-does : goal.returns-in-None-clause-does
returns-in-None-clause-does c =
    gives_up_empty c.args.number c.args.self.now c.requires.sized c.args.out.now c.refuse.new.made c.in_ok-stamps.stamps
    c.in_ok-stamps.ensures.step c.in_ok-stamps.ensures.pairs c.refuse.new.marks c.stamp_room-room.new.self c.stamp_room-room.ensures.messages c.in-None.ensures

pub returns-in_ok-post-in-Some-clause-does : goal.returns-in_ok-post-in-Some-clause-does
returns-in_ok-post-in-Some-clause-does c =
    gives_up c.args.number c.args.self.now c.requires.sized c.args.out.now c.refuse.new.made c.in_ok-stamps.stamps
    c.in_ok-stamps.ensures.step c.in_ok-stamps.ensures.pairs c.refuse.new.marks c.in-Some.lowest c.in_ok-copy_nogood-in-Some.field-0 c.copy_nogood.new.self c.post.new.out (c.copy_nogood.ensures.messages ∙ c.stamp_room-room.ensures.messages) c.in-Some.ensures c.in_ok-copy_nogood-in-Some.ensures.copy c.in_ok-post-in-Some.ensures
