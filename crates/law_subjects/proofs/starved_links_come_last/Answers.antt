use Rattle.law_subjects.proofs.Starving.{starved_come_last}
use Rattle.law_subjects.proofs.starved_links_come_last.Goals as goal

pub returns : goal.returns
returns c = starved_come_last
