use Rattle.ngd_log.proofs.EntryLaws.{texts_differ}
use Rattle.ngd_log.proofs.pieces.texts_differ.Goals as goal

pub returns : goal.returns
returns c = texts_differ
