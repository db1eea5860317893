use Rattle.law_subjects.proofs.MeantWhole.{variables_determine}
use Rattle.law_subjects.proofs.meaning.variables_determine.Goals as goal

pub returns : goal.returns
returns c = variables_determine
