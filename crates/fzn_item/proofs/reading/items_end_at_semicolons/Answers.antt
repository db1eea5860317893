use Rattle.fzn_item.proofs.Endings.{items_end_law}
use Rattle.fzn_item.proofs.reading.items_end_at_semicolons.Goals as goal

pub returns : goal.returns
returns c = items_end_law
