use Rattle.std.proofs.Common.{rules}
use Rattle.bench_parts.proofs.driver.Driver.new.Goals as goal

pub invariant_of-result : goal.invariant_of-result
invariant_of-result c = record {
  variables = c.requires;
  same = search rules;
  number = search rules;
}
