use Rattle.abt_lossy.proofs.HandingUp.{at_start}
use Rattle.abt_lossy.proofs.parts.Parts.start.Goals as goal

pub returns-clause-stands : goal.returns-clause-stands
returns-clause-stands c = at_start c.args.self.now c.mark_every.new.self c.start.new.self c.requires c.in_ok-begun.ensures.starts.stands c.start.ensures.problem c.in_ok-begun.ensures.begun c.in_ok-begun.ensures.sound
    c.mark_every.ensures.network c.mark_every.ensures.carrier c.mark_every.ensures.count c.mark_every.ensures.agents c.mark_every.ensures.marks
