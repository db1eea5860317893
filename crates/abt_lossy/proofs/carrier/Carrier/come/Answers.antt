use Rattle.std.proofs.Common.{refl, sym, ◌∙◌}
use Rattle.abt_lossy.proofs.Comes.{none_comes, one_comes, if_ok}
use Rattle.abt_lossy.proofs.carrier.Carrier.come.Goals as goal

pub returns-in-Some-clause-comes : goal.returns-in-Some-clause-comes
returns-in-Some-clause-comes c = if_ok c.arrive.result _ _ (λ x a. one_comes c.args.word c.args.self.now (record { counts = c.args.self.now.counts; pool = c.leave.new.self }) c.arrive.new.self c.in-Some.packet x c.requires.kind (sym c.coming-packet.ensures ∙ c.in-Some.is) refl c.leave.ensures a) c.arrive.ensures.arrives

pub returns-in-None-clause-comes : goal.returns-in-None-clause-comes
returns-in-None-clause-comes c = none_comes c.args.word c.args.self.now (record { counts = c.args.self.now.counts; pool = c.leave.new.self }) c.requires.kind (sym c.coming-packet.ensures ∙ c.in-None.is) refl c.leave.ensures
