use Rattle.dcsp_row.proofs.BitLaws.{size_of_marks, no_mark}
use Rattle.dcsp_row.proofs.row.Row.new.Goals as goal

pub returns-clause-size : goal.returns-clause-size
returns-clause-size c = size_of_marks c.args.size c.in_ok-words.words.items

pub returns-clause-none : goal.returns-clause-none
returns-clause-none c = λ place. no_mark c.args.size c.in_ok-words.words.items place c.in_ok-words.ensures.none
