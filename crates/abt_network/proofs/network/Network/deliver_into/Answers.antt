use Rattle.std.proofs.Common.{◌≡◌, false, sym, ap, subst, ◌∙◌}
use Rattle.abt_network.specs.Standing.{NetworkState, StandsAt, Delivers, LeadsOn, TellsSent, reached}
use Rattle.abt_network.specs.Bodies.{shown}
use Rattle.abt_network.specs.Rooms.{delivery_in}
use Rattle.abt_network.proofs.network.Network.deliver_into.Goals as goal

pub returns-in-Ok-clause-delivers : goal.returns-in-Ok-clause-delivers
returns-in-Ok-clause-delivers c net st =
    let before : shown c.self.inside.body false ≡ c.args.self.now = ap (shown c.self.inside.body) (sym c.if-self.false) ∙ c.self.view_is in
    let after : shown c.deliver.new.self false ≡ shown c.deliver.new.self c.self.inside.spent = ap (shown c.deliver.new.self) (sym c.if-self.false) in
    subst (λ (z : NetworkState). Delivers c.args.self.now.problem z net c.args.choice (delivery_in c.deliver.new.room)) after
    (subst (λ (s : NetworkState). StandsAt s net → Delivers s.problem (shown c.deliver.new.self false) net c.args.choice (delivery_in c.deliver.new.room)) before (c.in-Ok.ensures.delivers net) st)

pub returns-in-Ok-clause-leads : goal.returns-in-Ok-clause-leads
returns-in-Ok-clause-leads c choices st =
    let before : shown c.self.inside.body false ≡ c.args.self.now = ap (shown c.self.inside.body) (sym c.if-self.false) ∙ c.self.view_is in
    let after : shown c.deliver.new.self false ≡ shown c.deliver.new.self c.self.inside.spent = ap (shown c.deliver.new.self) (sym c.if-self.false) in
    subst (λ (z : NetworkState). LeadsOn c.args.self.now z choices c.args.choice (delivery_in c.deliver.new.room)) after
    (subst (λ (s : NetworkState). StandsAt s (reached s choices) → LeadsOn s (shown c.deliver.new.self false) choices c.args.choice (delivery_in c.deliver.new.room)) before (c.in-Ok.ensures.leads choices) st)

pub returns-in-Ok-clause-sends : goal.returns-in-Ok-clause-sends
returns-in-Ok-clause-sends c net st =
    let before : shown c.self.inside.body false ≡ c.args.self.now = ap (shown c.self.inside.body) (sym c.if-self.false) ∙ c.self.view_is in
    (subst (λ (s : NetworkState). StandsAt s net → TellsSent s.problem c.deliver.new.self.sent.items net c.args.choice) before (c.in-Ok.ensures.sends net) st)
