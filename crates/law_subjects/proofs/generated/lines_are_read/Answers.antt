use Rattle.law_subjects.proofs.WholeItems.{lines_are_read}
use Rattle.law_subjects.proofs.NamedWhole.{named_lines_are_read}
use Rattle.law_subjects.proofs.generated.lines_are_read.Goals as goal

pub returns : goal.returns
returns c = record { letters = lines_are_read; names = named_lines_are_read }
