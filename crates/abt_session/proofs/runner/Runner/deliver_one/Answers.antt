use Rattle.std.proofs.Common.{◌<◌}
use Rattle.std.proofs.lemmas.Result.{IfOk-at_ok}
use Rattle.dcsp_rule.specs.Problems.{csp_of}
use Rattle.abt_network.specs.Rooms.{delivery_in, made_in}
use Rattle.abt_network.specs.Standing.{reached, delivery_of}
use Rattle.abt_session.specs.Running.{order_of}
use Rattle.dcsp_script.proofs.StepLines.{memory_at_once, stopped_so}
use Rattle.abt_session.proofs.Pieces.{made_then_memory, made_counts, wrote_as}
use Rattle.abt_session.proofs.Writing.{told_where, writes_by_number}
use Rattle.abt_session.proofs.runner.Runner.deliver_one.Goals as goal

pub write_made-requires-clause-number : goal.write_made-requires-clause-number
write_made-requires-clause-number g c =
    let before = reached c.args.self.now.network c.requires.on_run.0 in
    let made = IfOk-at_ok _ c.in-Ok.is (c.deliver_into.ensures.delivers before c.requires.on_run.1) in
    let counted = made_counts before.steps (made_in c.deliver_into.new.room) _ c.deliver_into.new.self.steps made.steps made.stands.steps in
    told_where (0 < c.deliver_into.new.self.steps) (order_of c.args.self.now.task) (made_in c.deliver_into.new.room) (made_in c.tell_delivery.new.delivery) c.in-Ok-tell_delivery.ensures.step counted

pub write_made-requires-clause-in_range : goal.write_made-requires-clause-in_range
write_made-requires-clause-in_range g c =
    let made = (IfOk-at_ok _ c.in-Ok.is (c.deliver_into.ensures.leads c.requires.on_run.0 c.requires.on_run.1)).in_range in
    c.in-Ok-tell_delivery.ensures.in_range made

pub returns-in_default-clause-wrote : goal.returns-in_default-clause-wrote
returns-in_default-clause-wrote g c = λ net stands. memory_at_once _ _

pub returns-in_default-tell_delivery-clause-wrote : goal.returns-in_default-tell_delivery-clause-wrote
returns-in_default-tell_delivery-clause-wrote g c = λ net stands. memory_at_once _ _

pub returns-in_err-write_made-clause-wrote : goal.returns-in_err-write_made-clause-wrote
returns-in_err-write_made-clause-wrote g c = λ net stands.
    let old = c.args.self.now in
    let made = IfOk-at_ok _ c.in-Ok.is (c.deliver_into.ensures.delivers net stands) in
    let told = c.tell_delivery.new.delivery in
    let same =
    writes_by_number (order_of old.task) (csp_of old.network.problem) old.task.log.now old.task.telling c.args.choice net (delivery_of (delivery_in c.deliver_into.new.room)) (delivery_of (delivery_in told)) (made_in c.deliver_into.new.room) (made_in told) c.deliver_into.new.self.steps c.deliver_into.new.self.deliveries
    made.told made.steps made.stands.steps made.stands.deliveries c.in-Ok-tell_delivery.ensures.told c.in-Ok-tell_delivery.ensures.step
    in
    wrote_as same (stopped_so c.from_residual.result c.from_residual.ensures c.in_err-write_made.ensures.wrote)

pub returns-clause-wrote : goal.returns-clause-wrote
returns-clause-wrote g c = λ net stands.
    let old = c.args.self.now in
    let made = IfOk-at_ok _ c.in-Ok.is (c.deliver_into.ensures.delivers net stands) in
    let told = c.tell_delivery.new.delivery in
    let same =
    writes_by_number (order_of old.task) (csp_of old.network.problem) old.task.log.now old.task.telling c.args.choice net (delivery_of (delivery_in c.deliver_into.new.room)) (delivery_of (delivery_in told)) (made_in c.deliver_into.new.room) (made_in told) c.deliver_into.new.self.steps c.deliver_into.new.self.deliveries
    made.told made.steps made.stands.steps made.stands.deliveries c.in-Ok-tell_delivery.ensures.told c.in-Ok-tell_delivery.ensures.step
    in
    wrote_as same (made_then_memory c.take_down.result c.take_down.ensures.only_memory c.in_ok-write_made.ensures.wrote)
