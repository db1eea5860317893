use Rattle.abt_session.proofs.Pieces.{memory_at_once}
use Rattle.line_story.proofs.Runs.{text_appended}
use Rattle.line_story.proofs.teller.Teller.deliver.Goals as goal

pub returns-in_default-clause-wrote : goal.returns-in_default-clause-wrote
returns-in_default-clause-wrote g c = λ choices out st. memory_at_once _ _

pub returns-clause-wrote : goal.returns-clause-wrote
returns-clause-wrote g c = λ choices out st. text_appended c.args.self.now.file.now _ _ c.deref.ensures.value (c.in-Ok.ensures.told choices st) c.clear.ensures.items (c.append_some.ensures.wrote out)
