use Rattle.law_subjects.proofs.MeantWhole.{means_its_text}
use Rattle.law_subjects.proofs.meaning.means_its_text.Goals as goal

pub returns : goal.returns
returns c = means_its_text
