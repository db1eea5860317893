use Rattle.line_lossy.proofs.Files.{files_are_whole, answers_are_put, answers_come_last}
use Rattle.line_lossy.proofs.laws.lossy_runs_are_whole.Goals as goal

pub returns-clause-files : goal.returns-clause-files
returns-clause-files c = files_are_whole

pub returns-clause-answers : goal.returns-clause-answers
returns-clause-answers c = answers_are_put

pub returns-clause-last : goal.returns-clause-last
returns-clause-last c = answers_come_last
