use Rattle.std.proofs.Common.{◌≡◌, false, List, subst, sym}
use Rattle.abt_parts.specs.declared.recorded.Recorded.{Recorded}
use Rattle.abt_agent.specs.Bodies.{IsGood}
use Rattle.abt_agent.proofs.agent.Agent.give_back_room.Goals as goal

pub invariant_of-self : goal.invariant_of-self
invariant_of-self c =
    let b = c.self.inside.body in
    subst (λ (s : List Recorded). c.self.inside.spent ≡ false → IsGood (record b { known = record b.known { store = s } })) (sym c.take_room.ensures) c.self.invariant
