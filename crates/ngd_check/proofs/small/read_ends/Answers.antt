use Rattle.std.proofs.Common.{FitsSigned}
use Rattle.std.specs.Int.{w64}
use Rattle.ngd_check.proofs.Domains.{ends_fit}
use Rattle.ngd_check.proofs.small.read_ends.Goals as goal

pub returns-then-count-gt0 : goal.returns-then-count-gt0
returns-then-count-gt0 c =
    let low : FitsSigned w64 c.value-least.result = search in
    let high : FitsSigned w64 c.value-greatest.result = search in
    ends_fit c.args.domain.now c.value-least.result c.value-greatest.result c.len-count.ensures.rising c.value-least.ensures (rw (c.len-count.ensures.len) at c.value-greatest.ensures) low high
