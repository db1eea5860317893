use Rattle.std.proofs.Common.{◌+◌, arith}
use Rattle.std.specs.Prelude.{slice_index_or}
use Rattle.abt_reason.proofs.NamedLaws.{in_order}
use Rattle.abt_reason.proofs.named.part_of.Goals as goal

pub returns-then-var_at-starts-clause-from : goal.returns-then-var_at-starts-clause-from
returns-then-var_at-starts-clause-from c =
    let starts = c.args.starts.now in
    let var = c.args.var in
    let more = c.if-var_at-starts.true in
    in_order c.args.namings.now var (slice_index_or starts var 0) (slice_index_or starts (var + 1) 0) (c.requires.starts var (omega (arith, more))) (c.requires.starts (var + 1) (omega (arith, more)))
