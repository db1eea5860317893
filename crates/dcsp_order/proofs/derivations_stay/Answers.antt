use Rattle.dcsp_order.proofs.Steps.{derivations_come, refutations_come}
use Rattle.dcsp_order.proofs.derivations_stay.Goals as goal

pub returns-clause-derivations : goal.returns-clause-derivations
returns-clause-derivations c = derivations_come

pub returns-clause-refutations : goal.returns-clause-refutations
returns-clause-refutations c = refutations_come
