use Rattle.std.proofs.Common.{◌≡◌, ◌∙◌, ℕ, Option, ap}
use Rattle.abt_defs.specs.Clocks.{tick}
use Rattle.abt_measure.specs.Carrying.{receivers_of}
use Rattle.abt_measure.specs.Clocks.{clocks_of}
use Rattle.abt_measure.proofs.ClockLaws.{on_two}
use Rattle.abt_measure.proofs.CountLaws.{clock_more}
use Rattle.abt_measure.proofs.counts.count_by_clock.Goals as goal

pub returns-clause-counts : goal.returns-clause-counts
returns-clause-counts c = λ p acts a h act.
    let old = c.args.clock.now in
    let new = c.act.new.self in
    let same = ap (λ (s : Option ℕ). tick old.weights.latency (record { agent = c.args.deed.agent; sender = s; work = c.in_ok-work.work; receivers = receivers_of c.args.deed.sent.now }) (clocks_of old)) c.sender_of.ensures in
    on_two c.act.result c.act.ensures.ticks c.act.ensures.weights
    (λ (ticks : clocks_of new ≡ tick old.weights.latency (record { agent = c.args.deed.agent; sender = c.sender_of.result; work = c.in_ok-work.work; receivers = receivers_of c.args.deed.sent.now }) (clocks_of old)) (weights : new.weights ≡ old.weights).
    clock_more p acts a c.args.deed.agent c.args.deed.came c.args.deed.checks c.args.deed.recorded c.args.deed.sent.now act old new c.in_ok-work.work h c.in_ok-work.ensures (ticks ∙ same) weights c.act.ensures.long)
