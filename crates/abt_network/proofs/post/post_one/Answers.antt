use Rattle.abt_network.proofs.Posting.{stamped_sent}
use Rattle.abt_network.proofs.post.post_one.Goals as goal

pub returns-clause-stamped : goal.returns-clause-stamped
returns-clause-stamped c = stamped_sent c.args.links.now c.post.new.self c.args.from c.args.sent.to c.args.sent.message c.in-Ok.ensures.ok c.requires.stamped c.requires.stamps
