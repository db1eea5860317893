use Rattle.std.proofs.Common.{◌≡◌, ◌∙◌, ◌<◌, ap, sym, subst, length, arith, Some, slice_get, ℕ, List}
use Rattle.abt_links.specs.PairTables.{PairTable, members}
use Rattle.abt_links.specs.Marks.{is_set, rank}
use Rattle.abt_links.proofs.Tables.{members-table}
use Rattle.abt_links.proofs.Ranks.{sum_is, found, has_enough, row_is}
use Rattle.abt_links.proofs.pair_set.PairSet.nth.Goals as goal

pub find-from-requires : goal.find-from-requires
find-from-requires c = omega (arith, sum_is (record { agents = c.self.inside.agents; rows = c.self.inside.rows.items }) c.self.inside.sums c.self.invariant, ap length (members-table (record { agents = c.self.inside.agents; rows = c.self.inside.rows.items }) c.self.inside.sums c.self.invariant), ap (λ (t : PairTable). length (members t)) c.self.view_is)

pub nth-to-requires-clause-some : goal.nth-to-requires-clause-some
nth-to-requires-clause-some c = has_enough (record { agents = c.self.inside.agents; rows = c.self.inside.rows.items }) c.self.inside.sums c.find-from.result.0 c.find-from.result.1 c.index-row.result.now c.self.invariant c.find-from.ensures.exists c.index-row.ensures c.find-from.ensures.within

pub nth-to-requires-clause-short : goal.nth-to-requires-clause-short
nth-to-requires-clause-short c =
    let same : c.index-row.result.now ≡ _ = row_is (record { agents = c.self.inside.agents; rows = c.self.inside.rows.items }) c.self.inside.sums c.find-from.result.0 c.index-row.result.now c.self.invariant c.find-from.ensures.exists c.index-row.ensures in
    let sender : c.find-from.result.0 < c.self.inside.agents = omega (arith, c.find-from.ensures.exists, c.self.invariant.sums_long) in
    omega (arith, c.self.invariant.short c.find-from.result.0 sender, ap length same)

pub returns : goal.returns
returns c =
    let same : c.index-row.result.now ≡ _ = row_is (record { agents = c.self.inside.agents; rows = c.self.inside.rows.items }) c.self.inside.sums c.find-from.result.0 c.index-row.result.now c.self.invariant c.find-from.ensures.exists c.index-row.ensures in
    subst (λ (t : PairTable). slice_get (members t) c.args.number ≡ Some (c.find-from.result.0, c.nth-to.result)) c.self.view_is
    (ap (λ (l : List (ℕ × ℕ)). slice_get l c.args.number) (members-table (record { agents = c.self.inside.agents; rows = c.self.inside.rows.items }) c.self.inside.sums c.self.invariant)
    ∙ found (record { agents = c.self.inside.agents; rows = c.self.inside.rows.items }) c.self.inside.sums c.find-from.result.0 c.find-from.result.1 c.nth-to.result c.args.number c.self.invariant c.find-from.ensures.exists c.find-from.ensures.before
    (ap (λ (l : List ℕ). is_set l c.nth-to.result) (sym same) ∙ c.nth-to.ensures.set)
    (ap (λ (l : List ℕ). rank (is_set l) c.nth-to.result) (sym same) ∙ c.nth-to.ensures.before))
