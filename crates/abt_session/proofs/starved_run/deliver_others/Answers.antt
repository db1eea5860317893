use Rattle.std.proofs.Common.{sym, ◌∙◌}
use Rattle.abt_session.proofs.Delays.{no_delay, next_delay, stands_last, takes_all, takes_some, not_open}
use Rattle.abt_session.proofs.starved_run.deliver_others.Goals as goal

pub loop-made-init : goal.loop-made-init
loop-made-init c = no_delay c.args.from c.args.to c.args.most c.args.network.now c.args.taken.now c.requires.starts c.requires.sound c.requires.begun

pub returns-in-Refuted : goal.returns-in-Refuted
returns-in-Refuted c =
    let i = c.loop-made.invariant in
    let first = c.args.network.now in
    let last = not_open c.args.from c.args.to c.args.most first c.args.taken.now c.loop-made._made c.loop-made.network c.loop-made.taken i c.state.result (c.state.ensures.machine i.net i.stands i.sound) c.in-Refuted.is in
    record {
      stands = stands_last c.args.from c.args.to c.args.most first c.args.taken.now c.loop-made._made c.loop-made.network c.loop-made.taken i last;
      takes = takes_all c.args.from c.args.to c.args.most first c.args.taken.now c.loop-made._made c.loop-made.network c.loop-made.taken i last;
      takes_part = takes_some c.args.from c.args.to c.args.most first c.args.taken.now c.loop-made._made c.loop-made.network c.loop-made.taken i;
      sound = i.sound;
      problem = i.problem;
    }

pub loop-made-preserved : goal.loop-made-preserved
loop-made-preserved c =
    let i = c.loop-made.invariant in
    let one = c.in_ok-deliver_other.ensures in
    next_delay c.args.from c.args.to c.args.most c.args.network.now c.args.taken.now c.loop-made._made c.loop-made.network c.loop-made.taken i c.deliver_other.new.network c.deliver_other.new.taken
    c.loop-made-test.true (sym c.in-Open.is ∙ c.state.ensures.machine i.net i.stands i.sound) (one.stands i.net i.stands) (one.takes i.net i.stands) one.problem one.sound one.begun
