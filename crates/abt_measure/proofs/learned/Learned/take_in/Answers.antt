use Rattle.std.proofs.Common.{◌∙◌, List, ap, sym, subst}
use Rattle.std.specs.Prelude.{OnOk}
use Rattle.dcsp_defs.specs.declared.nogood.Pair.{Pair}
use Rattle.abt_parts.specs.declared.message.Message.{Message}
use Rattle.abt_parts.specs.Messages.{message_of}
use Rattle.abt_parts.proofs.Lists.{plain-with_stamps}
use Rattle.abt_measure.specs.Learning.{others, others_told, Learns}
use Rattle.abt_measure.proofs.learned.Learned.take_in.Goals as goal

pub returns-in-Refuse-clause-learns : goal.returns-in-Refuse-clause-learns
returns-in-Refuse-clause-learns c =
    let same = ap (others c.args.agent) (c.pairs.ensures.pairs ∙ sym (plain-with_stamps c.in-Refuse.nogood c.in-Refuse.stamps)) ∙ ap (λ (m : Message). others_told c.args.agent c.args.from (message_of m)) (sym c.in-Refuse.is) in
    subst (λ (l : List Pair). OnOk c.learn_all.result (Learns c.args.agent l c.args.self.now c.learn_all.new.self)) same c.learn_all.ensures.learns
