use Rattle.abt_links.proofs.Rows.{AllFresh}
use Rattle.abt_links.proofs.pair_set.PairSet.new.Given as goal

abbrev pub invariant-loop : goal.invariant-loop
invariant-loop l = AllFresh l.agents l.counter l.rows.items
