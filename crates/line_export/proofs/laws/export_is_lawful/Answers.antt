use Rattle.line_export.proofs.Lawful.{export_lawful}
use Rattle.line_export.proofs.laws.export_is_lawful.Goals as goal

pub returns : goal.returns
returns c = export_lawful
