use Rattle.std.proofs.Common.{◌∙◌, sym, ap}
use Rattle.dcsp_rule.specs.declared.aim.Aim.{Aim}
use Rattle.abt_optimum.specs.Rounds.{is_done}
use Rattle.abt_optimum.proofs.Fewer.{few, room}
use Rattle.abt_optimum.proofs.search.Search.done.Goals as goal

pub returns-clause-few : goal.returns-clause-few
returns-clause-few c = rw (← c.self.view_is) (few _ _ (λ _. c.self.invariant.rising) _ c.self.invariant.search.rounds)

pub returns-clause-room : goal.returns-clause-room
returns-clause-room c = λ still.
    let as_told = c.is_done.ensures ∙ ap (λ (aim : Aim). is_done aim c.deref.result.now) c.aim.ensures.aim ∙ ap (is_done c.self.inside.problem.now.aim) c.deref.ensures.value in
    rw (← c.self.view_is) (room _ _ (λ _. c.self.invariant.rising) _ c.self.invariant.search.rounds (sym as_told ∙ still))
