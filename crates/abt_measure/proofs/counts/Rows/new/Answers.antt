use Rattle.std.proofs.Common.{◌≡◌, ◌∙◌, ◌++◌, ◌∷◌, [], ℕ, List, length, length-append, ap, sym, subst, rules, arith}
use Rattle.abt_measure.specs.declared.row.Row.{Row}
use Rattle.abt_measure.specs.Rows.{as_row, no_row}
use Rattle.abt_measure.specs.Counting.{row_at}
use Rattle.abt_measure.proofs.CountLaws.{none_counted}
use Rattle.abt_measure.proofs.counts.Rows.new.Goals as goal

pub loop-agent-preserved : goal.loop-agent-preserved
loop-agent-preserved c =
    let items : c.push.new.self.items ≡ c.loop-agent.rows.items ++ c.none.result ∷ [] = search rules in
    let more = ap (λ (l : List Row). length l) items ∙ length-append c.loop-agent.rows.items (c.none.result ∷ []) in
    let long = c.loop-agent.invariant.long in
    record {
      long = omega arith;
      none = subst (λ (l : List Row). (k : ℕ) → as_row (row_at l k) ≡ no_row) (sym items) (none_counted c.loop-agent.rows.items c.none.result c.none.ensures c.loop-agent.invariant.none);
    }
