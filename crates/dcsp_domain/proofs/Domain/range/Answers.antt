use Rattle.std.proofs.Common.{◌≡◌, arith, to_z-of_z, w64, SFits}
use Rattle.dcsp_domain.specs.Ranges.{numbers_from}
use Rattle.dcsp_domain.proofs.Domains.{domain_of_range}
use Rattle.dcsp_domain.proofs.Domain.range.Goals as goal

pub whole-requires : goal.whole-requires
whole-requires c =
    let fits : SFits w64 c.args.low = c.ranges.low in
    let is : c.in_ok-numbers.numbers.items ≡ numbers_from c.args.low c.count_between-size.result = simp to_z-of_z at c.in_ok-numbers.ensures in
    domain_of_range c.args.low c.count_between-size.result c.in_ok-numbers.numbers.items is (omega arith)
