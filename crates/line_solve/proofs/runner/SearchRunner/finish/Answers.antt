use Rattle.line_solve.proofs.Telling.{found_is}
use Rattle.line_solve.proofs.runner.SearchRunner.finish.Goals as goal

pub returns-clause-found : goal.returns-clause-found
returns-clause-found c = found_is c.args.self.search c.outcome.result.end c.requires.search c.outcome.ensures.end c.outcome.ensures.capped
