use Rattle.dcsp_order.proofs.Solutions.{solutions_go, solutions_come}
use Rattle.dcsp_order.proofs.solutions_stay.Goals as goal

pub returns-clause-by_place : goal.returns-clause-by_place
returns-clause-by_place c = solutions_go

pub returns-clause-by_number : goal.returns-clause-by_number
returns-clause-by_number c = solutions_come
