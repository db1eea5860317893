use Rattle.line_solve.proofs.Making.{numbers_where, tells_of}
use Rattle.line_solve.proofs.runner.SearchRunner.run_on.Goals as goal

pub returns-clause-tells : goal.returns-clause-tells
returns-clause-tells g c = tells_of _ c.run.result (rw c.new-choices.ensures at c.run.ensures.gives) (rw c.new-choices.ensures at c.run.ensures.verdicts)

pub returns-clause-numbers : goal.returns-clause-numbers
returns-clause-numbers g c = numbers_where c.run.result _ c.keeps.ensures (rw c.new-choices.ensures at c.run.ensures.numbers)
