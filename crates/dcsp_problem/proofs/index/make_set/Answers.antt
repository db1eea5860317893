use Rattle.dcsp_problem.proofs.RisingNumbers.{rising-sorted_set, In-sorted_set, In-from_sorted_set}
use Rattle.dcsp_problem.proofs.index.make_set.Goals as goal

pub returns-then-len-ne2-clause-rising : goal.returns-then-len-ne2-clause-rising
returns-then-len-ne2-clause-rising c = rising-sorted_set c.args.numbers.now.items _ _ c.sort_unstable.ensures.sorted c.dedup.ensures.filtered

pub returns-then-len-ne2-clause-same : goal.returns-then-len-ne2-clause-same
returns-then-len-ne2-clause-same c = λ v. (
  In-from_sorted_set _ _ _ c.sort_unstable.ensures.permutation c.dedup.ensures.filtered v,
  In-sorted_set _ _ _ c.sort_unstable.ensures.permutation c.dedup.ensures.filtered v,
)
