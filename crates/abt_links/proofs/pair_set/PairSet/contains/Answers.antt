use Rattle.std.proofs.Common.{◌<◌, ◌∙◌, sym, ap, subst, arith, ℕ, List}
use Rattle.std.proofs.lemmas.List.{get_or_default}
use Rattle.abt_links.specs.PairTables.{PairTable, has_pair}
use Rattle.abt_links.specs.Marks.{is_set}
use Rattle.abt_links.proofs.Tables.{has-table}
use Rattle.abt_links.proofs.pair_set.PairSet.contains.Goals as goal

pub returns : goal.returns
returns c =
    let sender : c.args.from < c.self.inside.agents = subst (λ (t : PairTable). c.args.from < t.agents) (sym c.self.view_is) c.requires.sender in
    c.contains.ensures
    ∙ ap (λ (l : List ℕ). is_set l c.args.to) (c.index.ensures ∙ get_or_default c.self.inside.rows.items c.args.from c.index.result.now _ (omega (arith, c.self.invariant.long)))
    ∙ sym (has-table (record { agents = c.self.inside.agents; rows = c.self.inside.rows.items }) c.self.inside.sums c.self.invariant c.args.from c.args.to)
    ∙ ap (λ (t : PairTable). has_pair t c.args.from c.args.to) c.self.view_is
