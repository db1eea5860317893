use Rattle.dcsp_domain.proofs.Domains.{sorted_set_is}
use Rattle.dcsp_domain.proofs.sorted_set.Goals as goal

pub returns : goal.returns
returns c =
    let copied = c.in_ok-values.ensures.items in
    rw (← copied) (sorted_set_is _ _ _ c.sort_unstable.ensures.permutation c.sort_unstable.ensures.sorted c.dedup.ensures.filtered)
