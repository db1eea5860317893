use Rattle.std.proofs.Common.{arith}
use Rattle.dcsp_domain.proofs.Domains.{domain_of_set}
use Rattle.dcsp_domain.proofs.Domain.listed.Goals as goal

pub whole-requires : goal.whole-requires
whole-requires c = domain_of_set c.args.values.now c.in_ok-values.values.items c.in_ok-values.ensures (omega arith)
