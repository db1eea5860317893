use Rattle.dcsp_meaning.proofs.TableLaws.{pieces}
use Rattle.dcsp_meaning.proofs.laws.rows_are_pieces.Goals as goal

pub returns : goal.returns
returns c = pieces
