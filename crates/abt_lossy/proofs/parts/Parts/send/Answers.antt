use Rattle.std.proofs.Common.{refl}
use Rattle.abt_lossy.proofs.Events.{sends_nothing, sends_one, on_both}
use Rattle.abt_lossy.proofs.parts.Parts.send.Goals as goal

pub returns-then-count-eq0-clause-does : goal.returns-then-count-eq0-clause-does
returns-then-count-eq0-clause-does c = sends_nothing c.args.word c.count-count.result c.args.self.now c.requires.kind c.count-count.ensures c.if-count-eq0.true

pub returns-clause-does : goal.returns-clause-does
returns-clause-does c = on_both c.send.result _ _ _ (λ s e. sends_one c.args.word c.count-count.result c.nth-sender.result.0 c.nth-sender.result.1 c.args.self.now _ c.requires.kind c.count-count.ensures c.nth-sender.ensures s e refl refl refl) c.send.ensures.sends c.send.ensures.counts
