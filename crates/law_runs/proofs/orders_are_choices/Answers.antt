use Rattle.law_runs.proofs.Choices.{orders_are_choices}
use Rattle.law_runs.proofs.orders_are_choices.Goals as goal

pub returns : goal.returns
returns c = orders_are_choices
