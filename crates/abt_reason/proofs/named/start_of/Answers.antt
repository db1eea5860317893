use Rattle.std.proofs.Common.{ltb, ltb-true, ltb-false, arith, rules}
use Rattle.std.proofs.lemmas.List.Sorted.{IsPartitionPoint-from_clause, IsPartitionedBy-ltb}
use Rattle.abt_reason.proofs.named.start_of.Goals as goal

pub returns : goal.returns
returns c =
    let parted = IsPartitionedBy-ltb (λ n. n.var) _ c.args.var c.requires in
    let point = IsPartitionPoint-from_clause (λ n. ltb n.var c.args.var) _ _ c.partition_point.ensures.partitioned parted (λ a r q k. search rules) in
    record {
      within = c.partition_point.ensures.bound;
      before = λ k d h. ltb-true _ _ (point.0 k d (omega arith) h);
      after = λ k d low high. ltb-false _ _ (point.1 k d low high);
    }
