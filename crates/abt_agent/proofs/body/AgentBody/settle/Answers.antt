use Rattle.std.proofs.Common.{IfOk, rules}
use Rattle.abt_agent.specs.Turns.{turn_with}
use Rattle.abt_agent.specs.Bodies.{DoesSettle}
use Rattle.abt_agent.proofs.Receives.{good_settled}
use Rattle.abt_agent.proofs.body.AgentBody.settle.Goals as goal

pub returns-in-Some-clause-does : goal.returns-in-Some-clause-does
returns-in-Some-clause-does c = let does = c.take_value.ensures.does c.args.made.now in search rules

pub returns-in-Some-clause-good : goal.returns-in-Some-clause-good
returns-in-Some-clause-good c =
    let does : IfOk c.take_value.result (λ kind. DoesSettle c.args.number c.args.self.now c.take_value.new.self c.args.out.now c.take_value.new.out (turn_with kind c.args.made.now)) = let does = c.take_value.ensures.does c.args.made.now in search rules in
    good_settled (λ kind. turn_with kind c.args.made.now) c.agents_stay_sound.ensures c.args.number c.args.self.now c.take_value.new.self c.args.out.now c.take_value.new.out c.take_value.result c.requires.good c.take_value.ensures.owner does

pub returns-in-None-clause-good : goal.returns-in-None-clause-good
returns-in-None-clause-good c =
    let does : IfOk c.give_up.result (λ kind. DoesSettle c.args.number c.args.self.now c.give_up.new.self c.args.out.now c.give_up.new.out (turn_with kind c.give_up.new.made)) = search rules in
    good_settled (λ kind. turn_with kind c.give_up.new.made) c.agents_stay_sound.ensures c.args.number c.args.self.now c.give_up.new.self c.args.out.now c.give_up.new.out c.give_up.result c.requires.good c.give_up.ensures.owner does
