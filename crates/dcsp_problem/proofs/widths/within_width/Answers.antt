use Rattle.std.proofs.Common.{length}
use Rattle.dcsp_problem.proofs.WidthLaws.{total_known}
use Rattle.dcsp_problem.proofs.widths.within_width.Goals as goal

pub greatest_of-total-requires : goal.greatest_of-total-requires
greatest_of-total-requires c = total_known (length c.args.domains.now) c.in-Sum.terms.now c.in-Sum.total c.in-Sum.truth (rw c.in-Sum.is at c.requires.known)
