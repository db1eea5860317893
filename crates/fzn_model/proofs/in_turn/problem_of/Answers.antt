use Rattle.fzn_model.proofs.Turns.{finished_after}
use Rattle.fzn_model.proofs.in_turn.problem_of.Goals as goal

pub returns : goal.returns
returns c = finished_after c.args.text.items c.deref.result.now c.in_ok-built.built c.in_ok-finish.field-0 c.deref.ensures.value c.in_ok-finish.ensures c.in_ok-built.ensures
