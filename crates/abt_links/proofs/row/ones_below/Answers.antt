use Rattle.abt_links.proofs.Rows.{masked_ones}
use Rattle.abt_links.proofs.row.ones_below.Goals as goal

pub returns : goal.returns
returns c = masked_ones c.args.word c.args.bit c.requires
