use Rattle.std.proofs.Common.{◌≡◌, take}
use Rattle.dcsp_problem.proofs.problem.copied_domains.Given as goal

abbrev pub invariant-loop-domain : goal.invariant-loop-domain
invariant-loop-domain l = l.copies.items ≡ take l.domain-index l.domain-items
