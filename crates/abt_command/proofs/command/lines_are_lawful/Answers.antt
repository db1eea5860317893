use Rattle.abt_command.proofs.Lines.{one_line, lawful}
use Rattle.abt_command.proofs.command.lines_are_lawful.Goals as goal

pub returns-clause-one_line : goal.returns-clause-one_line
returns-clause-one_line c = one_line

pub returns-clause-lawful : goal.returns-clause-lawful
returns-clause-lawful c = lawful
