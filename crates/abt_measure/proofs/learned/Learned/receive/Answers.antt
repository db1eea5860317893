use Rattle.abt_parts.specs.Messages.{message_of}
use Rattle.abt_measure.specs.Learning.{others_told, Learns}
use Rattle.abt_measure.proofs.ClockLaws.{on_ok}
use Rattle.abt_measure.proofs.LearnLaws.{learned_more}
use Rattle.abt_measure.proofs.learned.Learned.receive.Goals as goal

pub returns-clause-learned : goal.returns-clause-learned
returns-clause-learned c = λ acts a h ea em.
    on_ok c.take_in.result c.take_in.ensures.learns (λ (l : Learns c.args.agent (others_told c.args.agent c.args.from (message_of c.args.message.now)) c.args.self.now c.take_in.new.self).
    learned_more acts a c.args.agent c.args.from (message_of c.args.message.now) c.args.self.now c.take_in.new.self h ea em l)
