use Rattle.abt_command.proofs.Lines.{lawful}
use Rattle.law_inputs.proofs.Lines.{line_answered}
use Rattle.law_inputs.proofs.each_line_has_one_report.Goals as goal

pub returns : goal.returns
returns c = λ line. record { some = line_answered c.entries_have_finding.ensures line; one = (lawful line).one }
