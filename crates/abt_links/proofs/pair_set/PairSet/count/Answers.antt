use Rattle.std.proofs.Common.{◌∙◌, ap, sym, length}
use Rattle.abt_links.specs.PairTables.{PairTable, members}
use Rattle.abt_links.proofs.Ranks.{sum_is}
use Rattle.abt_links.proofs.Tables.{members-table}
use Rattle.abt_links.proofs.pair_set.PairSet.count.Goals as goal

pub returns : goal.returns
returns c =
    c.total.ensures
    ∙ sum_is (record { agents = c.self.inside.agents; rows = c.self.inside.rows.items }) c.self.inside.sums c.self.invariant
    ∙ ap length (sym (members-table (record { agents = c.self.inside.agents; rows = c.self.inside.rows.items }) c.self.inside.sums c.self.invariant))
    ∙ ap (λ (t : PairTable). length (members t)) c.self.view_is
