use Rattle.std.proofs.Common.{◌+◌, ◌∙◌, ◌%◌, ◌++◌, map, length, ap, refl, subst, arith}
use Rattle.dcsp_defs.specs.Words.{In}
use Rattle.abt_defs.specs.Steps.{Outcome, receive}
use Rattle.dcsp_rule.specs.Problems.{csp_of}
use Rattle.abt_parts.specs.Messages.{message_of, messages_of, told_sent}
use Rattle.abt_agent.specs.States.{stands_for}
use Rattle.abt_agent.specs.Turns.{turn_with}
use Rattle.abt_network.specs.Rooms.{step_if}
use Rattle.abt_network.specs.Standing.{state_at}
use Rattle.abt_network.proofs.Sending.{went_is, went_stamped, receivers_exist, seated_after}
use Rattle.abt_network.proofs.Delivering.{expected_here, left_stamped, same_outcome, passes, sends}
use Rattle.abt_network.proofs.body.NetworkBody.pass_on.Goals as goal

pub hand_over-requires-clause-fit : goal.hand_over-requires-clause-fit
hand_over-requires-clause-fit c =
    let linked = c.requires.tidy.sized.linked in
    let sender = c.take_ready-carried.ensures.sender in
    let receiver = c.take_ready-carried.ensures.receiver in
    (expected_here c.args.self.now.problem.now c.args.self.now.agents.items c.args.self.now.links c.take_ready-carried.new.self (c.args.self.now.steps + 1) c.take_ready-carried.result.from c.take_ready-carried.result.to c.take_ready-carried.result.message c.requires.expects
    (omega (arith, sender, linked)) (omega (arith, receiver, linked)) c.take_ready-carried.ensures.takes).fit

pub post-requires-clause-receivers : goal.post-requires-clause-receivers
post-requires-clause-receivers c =
    let p = c.args.self.now.problem.now in
    let agents = c.args.self.now.agents.items in
    let from = c.take_ready-carried.result.from in
    let to = c.take_ready-carried.result.to in
    let m = c.take_ready-carried.result.message in
    let next = c.args.self.now.steps + 1 in
    let old = state_at agents to in
    let o = receive (csp_of old.problem) old.me next (stands_for old) from (message_of m) in
    let linked = c.requires.tidy.sized.linked in
    let sender = c.take_ready-carried.ensures.sender in
    let receiver = c.take_ready-carried.ensures.receiver in
    let same = c.take_ready-carried.ensures.takes.agents in
    let here = expected_here p agents c.args.self.now.links c.take_ready-carried.new.self next from to m c.requires.expects (omega (arith, sender, linked)) (omega (arith, receiver, linked)) c.take_ready-carried.ensures.takes in
    receivers_exist c.args.self.now.out c.hand_over.new.out o.sent (length p.domains) c.take_ready-carried.new.self.agents c.in_ok-kind.ensures.does.sent c.requires.tidy.none_out
    (λ x u. here.receivers x (subst (λ (z : Outcome). In x z.sent) (same_outcome p agents next from to m c.requires.tidy.seated (omega (arith, receiver, linked))) u))
    (omega (arith, linked, same))

pub post-requires-clause-stamps : goal.post-requires-clause-stamps
post-requires-clause-stamps c =
    let old = state_at c.args.self.now.agents.items c.take_ready-carried.result.to in
    let o = receive (csp_of old.problem) old.me (c.args.self.now.steps + 1) (stands_for old) c.take_ready-carried.result.from (message_of c.take_ready-carried.result.message) in
    went_stamped c.args.self.now.out c.hand_over.new.out o.sent c.in_ok-kind.ensures.does.sent c.requires.tidy.none_out

pub post-requires-clause-stamped : goal.post-requires-clause-stamped
post-requires-clause-stamped c =
    left_stamped c.args.self.now.links c.take_ready-carried.new.self c.take_ready-carried.result.from c.take_ready-carried.result.to c.take_ready-carried.result.message c.take_ready-carried.ensures.takes c.requires.tidy.stamped

pub returns-clause-passes : goal.returns-clause-passes
returns-clause-passes c net st =
    let p = c.args.self.now.problem.now in
    let agents = c.args.self.now.agents.items in
    let from = c.take_ready-carried.result.from in
    let to = c.take_ready-carried.result.to in
    let m = c.take_ready-carried.result.message in
    let next = c.args.self.now.steps + 1 in
    let old = state_at agents to in
    let o = receive (csp_of old.problem) old.me next (stands_for old) from (message_of m) in
    let linked = c.requires.tidy.sized.linked in
    let receiver = c.take_ready-carried.ensures.receiver in
    passes p agents c.hand_over.new.agents.items c.args.self.now.links c.take_ready-carried.new.self c.post.new.links net next c.args.choice c.ready_count-count.result m c.hand_over.new.out o (turn_with c.in_ok-kind.kind c.hand_over.new.made)
    (record { number = c.args.choice % c.ready_count-count.result; from = from; to = to; cargo = c.cargo_of-room.result; step = step_if c.makes_step-room.result c.hand_over.new.made })
    st.parts (ap (λ k. k + 1) st.steps) linked c.ready_count-count.ensures c.take_ready-carried.ensures.pair (omega (arith, receiver, linked)) refl c.take_ready-carried.ensures.takes
    (same_outcome p agents next from to m c.requires.tidy.seated (omega (arith, receiver, linked))) c.in_ok-kind.ensures.does.agent
    (went_is c.args.self.now.out c.hand_over.new.out o.sent c.in_ok-kind.ensures.does.sent c.requires.tidy.none_out) c.in_ok-kind.ensures.does.turn_is
    c.cargo_of-room.ensures (c.makes_step-room.ensures c.hand_over.new.made) c.in_ok-kind.ensures.others c.in_ok-post.ensures.lists

pub returns-clause-sends : goal.returns-clause-sends
returns-clause-sends c net st =
    let p = c.args.self.now.problem.now in
    let agents = c.args.self.now.agents.items in
    let from = c.take_ready-carried.result.from in
    let to = c.take_ready-carried.result.to in
    let m = c.take_ready-carried.result.message in
    let next = c.args.self.now.steps + 1 in
    let old = state_at agents to in
    let o = receive (csp_of old.problem) old.me next (stands_for old) from (message_of m) in
    let linked = c.requires.tidy.sized.linked in
    let receiver = c.take_ready-carried.ensures.receiver in
    sends p agents c.hand_over.new.agents.items c.args.self.now.links c.take_ready-carried.new.self c.post.new.links net next c.args.choice c.ready_count-count.result m c.hand_over.new.out o (turn_with c.in_ok-kind.kind c.hand_over.new.made)
    (record { number = c.args.choice % c.ready_count-count.result; from = from; to = to; cargo = c.cargo_of-room.result; step = step_if c.makes_step-room.result c.hand_over.new.made })
    st.parts (ap (λ k. k + 1) st.steps) linked c.ready_count-count.ensures c.take_ready-carried.ensures.pair (omega (arith, receiver, linked)) refl c.take_ready-carried.ensures.takes
    (same_outcome p agents next from to m c.requires.tidy.seated (omega (arith, receiver, linked))) c.in_ok-kind.ensures.does.agent
    (went_is c.args.self.now.out c.hand_over.new.out o.sent c.in_ok-kind.ensures.does.sent c.requires.tidy.none_out) c.in_ok-kind.ensures.does.turn_is
    c.cargo_of-room.ensures (c.makes_step-room.ensures c.hand_over.new.made) c.in_ok-kind.ensures.others c.in_ok-post.ensures.lists
    c.post.new.told.items (c.in_ok-post.ensures.told ∙ ap (λ l. l ++ map told_sent (messages_of c.hand_over.new.out)) c.clear.ensures.items)

pub returns-clause-tidy : goal.returns-clause-tidy
returns-clause-tidy c =
    let linked = c.requires.tidy.sized.linked in
    let receiver = c.take_ready-carried.ensures.receiver in
    let does = c.in_ok-kind.ensures.does in
    record {
      sized = record { long = c.in_ok-kind.ensures.long ∙ c.requires.tidy.sized.long; linked = c.in_ok-post.ensures.agents ∙ c.take_ready-carried.ensures.takes.agents ∙ linked };
      seated = seated_after c.args.self.now.problem.now c.args.self.now.agents.items c.hand_over.new.agents.items c.take_ready-carried.result.to c.requires.tidy.seated (omega (arith, receiver, linked)) does.problem does.me does.good c.in_ok-kind.ensures.others;
      none_out = c.in_ok-post.ensures.out;
      stamped = c.in_ok-post.ensures.stamped;
    }
