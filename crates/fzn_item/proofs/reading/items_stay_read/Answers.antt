use Rattle.fzn_item.proofs.Endings.{items_stay_law, refusals_stay_law}
use Rattle.fzn_item.proofs.reading.items_stay_read.Goals as goal

pub returns : goal.returns
returns c = record { items = items_stay_law; refusals = refusals_stay_law }
