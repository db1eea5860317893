use Rattle.std.proofs.Common.{length, sym, ap, ◌∙◌}
use Rattle.dcsp_rule.specs.Problems.{csp_of}
use Rattle.ngd_check.specs.Places.{KeptFor, nogood_left}
use Rattle.ngd_store.proofs.Below.{below_length}
use Rattle.ngd_check.proofs.kept.Kept.len.Goals as goal

pub returns-clause-len : goal.returns-clause-len
returns-clause-len c =
    c.len.ensures.len ∙ (sym (below_length (nogood_left (csp_of c.self.inside.problem.now) c.self.inside.lists c.self.inside.dropped.items) (length c.self.inside.lists)) ∙ ap (λ (q : KeptFor). length q.nogoods) c.self.view_is)
