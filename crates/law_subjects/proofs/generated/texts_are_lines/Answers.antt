use Rattle.law_subjects.proofs.ItemTexts.{texts_are_lines}
use Rattle.law_subjects.proofs.MeetingLines.{agenda_text}
use Rattle.law_subjects.proofs.SensorLines.{tracking_text}
use Rattle.law_subjects.proofs.generated.texts_are_lines.Goals as goal

pub returns : goal.returns
returns c = record { letters = texts_are_lines; meetings = agenda_text; sensors = tracking_text }
