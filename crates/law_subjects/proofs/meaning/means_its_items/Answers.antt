use Rattle.law_subjects.proofs.Goals.{aims_at_its_goal}
use Rattle.law_subjects.proofs.MeantWhole.{means_its_items}
use Rattle.law_subjects.proofs.meaning.means_its_items.Goals as goal

pub returns-clause-solutions : goal.returns-clause-solutions
returns-clause-solutions c = means_its_items

pub returns-clause-aim : goal.returns-clause-aim
returns-clause-aim c = aims_at_its_goal
