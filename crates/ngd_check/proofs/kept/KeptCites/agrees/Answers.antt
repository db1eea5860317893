use Rattle.std.proofs.Common.{ap, ◌∙◌}
use Rattle.dcsp_rule.specs.Problems.{csp_of}
use Rattle.dcsp_defs.specs.Csp.{with_value, agrees}
use Rattle.ngd_check.specs.Places.{KeptFor, pairs_of}
use Rattle.ngd_check.specs.Progress.{kept_at}
use Rattle.ngd_check.proofs.Citing.{agrees_with}
use Rattle.ngd_check.proofs.kept.KeptCites.agrees.Goals as goal

pub returns-in-Some : goal.returns-in-Some
returns-in-Some g c =
    let values = with_value c.args.given.now.var c.args.given.now.value (g.L.Lookup.values c.args.given.now.known.now) in
    agrees_with (kept_at c.args.self.now.nogoods) values c.args.number (pairs_of (csp_of c.args.self.now.problem) c.in-Some.placed.now) c.agrees_at.result c.in-Some.ensures.some.same
    (c.agrees_at.ensures ∙ ap (λ (q : KeptFor). agrees values (pairs_of (csp_of q.problem) c.in-Some.placed.now)) c.self.view_is)
