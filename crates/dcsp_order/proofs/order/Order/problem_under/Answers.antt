use Rattle.std.proofs.Common.{◌≡◌, ℕ, ◌∙◌, List, ap, length, subst}
use Rattle.dcsp_rule.specs.Problems.{Contents}
use Rattle.dcsp_order.specs.Orders.{IsOrder}
use Rattle.dcsp_order.specs.Under.{aim_under}
use Rattle.dcsp_order.proofs.Stays.{still_problem}
use Rattle.dcsp_order.proofs.order.Order.problem_under.Goals as goal

pub of_parts-requires : goal.of_parts-requires
of_parts-requires c =
    let p : Contents = c.args.problem.now in
    let order : List ℕ = c.args.self.now in
    let good : IsOrder (length p.domains) order = subst (λ n. IsOrder n order) c.requires c.has_each_once.ensures.order in
    let moved = still_problem p c.denotes_csp.ensures.problem order good in
    let aim : c.aim_under-aim.result ≡ aim_under order p.aim = c.aim_under-aim.ensures ∙ ap (aim_under order) c.aim.ensures.aim in
    rw (c.in_ok-domains.ensures, c.in_ok-rules.ensures, c.in_ok-outputs.ensures, aim) moved
