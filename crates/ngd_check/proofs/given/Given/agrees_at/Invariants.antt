use Rattle.std.proofs.Common.{◌≡◌, drop}
use Rattle.dcsp_defs.specs.Csp.{with_value, agrees}
use Rattle.dcsp_rule.specs.Problems.{csp_of}
use Rattle.ngd_check.specs.Places.{pairs_of}
use Rattle.ngd_check.proofs.given.Given.agrees_at.Given as goal

-- whether the pairs agree is whether those that are left do
abbrev pub invariant-loop-placed : goal.invariant-loop-placed
invariant-loop-placed g l = agrees (with_value l.self.var l.self.value (g.L.Lookup.values l.self.known.now)) (pairs_of (csp_of l.problem) (drop l.placed-index l.pairs)) ≡ agrees (with_value l.self.var l.self.value (g.L.Lookup.values l.self.known.now)) (pairs_of (csp_of l.problem) l.pairs)
